-- What a run writes last, and its result.
use Rattle.std.specs.Prelude.{◌≡◌, Bool, true, false, List, ◌++◌, ℕ, Option, Result, Ok, Err}
use Rattle.std.specs.Io.KnownBytes.{Appends}
use Rattle.streams.specs.Fronts.{AppendsFront}
use Rattle.streams.specs.Gathered.{Gathering, Gathered}
use Rattle.events.specs.declared.kinds.InputEnd.{InputEnd}
use Rattle.events.specs.declared.kinds.InputEnd.TheVariants.{NoEvent}
use Rattle.events.specs.Running.{ending}
use Rattle.events.specs.declared.errors.RunError.{RunError}
use Rattle.events.specs.declared.errors.RunError.TheVariants.{Input, Output, Memory, TooMany}
use Rattle.events.specs.Output.{IsOutput}

-- what a run writes behind its lines: `stop`, but where all was played and behind refused settings
abbrev pub last_text : Result InputEnd RunError → List ℕ
last_text (Ok end) = ending end
last_text (Err e) = ending NoEvent

-- whether a read failed there
abbrev pub reads_failed : Result InputEnd RunError → Bool
reads_failed (Ok end) = false
reads_failed (Err (Input e)) = true
reads_failed (Err (Output e)) = false
reads_failed (Err Memory) = false
reads_failed (Err TooMany) = false

-- the exit status of a program by the error of its run: 4 where lines are missing, 3 where a read failed or the numbers are used up [event-status]
abbrev pub error_status : RunError → ℕ
error_status (Input e) = 3
error_status (Output e) = 4
error_status Memory = 4
error_status TooMany = 3

-- lines are told as lost
abbrev pub IsLost : Result InputEnd RunError → Type 0
IsLost (Ok end) = ⊥
IsLost (Err e) = IsOutput e

-- all the lines and the last text are written, and the result is the end; or, where a write failed, a front of them and not all, and that is told
abbrev pub FinishedBy : Bool → Result InputEnd RunError → (base new : Option (List ℕ)) → List ℕ → Result InputEnd RunError → Type 0
FinishedBy false end base new text r = (r ≡ end) × Appends base new (text ++ last_text end)
FinishedBy true end base new text r = IsLost r × AppendsFront base new (text ++ last_text end)

-- so it is whatever lines were gathered before
pub record Finished (end : Result InputEnd RunError) (old : Gathering) (new : Option (List ℕ)) (failed : Bool) (r : Result InputEnd RunError) : Type 0 where
  pub goes : (base : Option (List ℕ)) (text : List ℕ) → Gathered base text old → FinishedBy failed end base new text r
