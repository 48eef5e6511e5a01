-- What a check of named scripts writes and says, for each way in which it may end.
use Rattle.std.specs.Prelude.{◌≡◌, ℕ, eqb, List, [], ◌∷◌, ◌++◌, ◌⊎◌, All, codes, Option, Some, Result, Ok, Err}
use Rattle.std.specs.declared.io.Error.{Error}
use Rattle.std.specs.Io.KnownBytes.{Appends}
use Rattle.bits.specs.Pick.{pick}
use Rattle.streams.specs.Fronts.{AppendsFront, AppendsSome}
use Rattle.streams.specs.Lost.{complaint}
use Rattle.events.specs.Output.{Loses}
use Rattle.events.specs.Runs.{Said}
use Rattle.events.specs.declared.errors.RunError.{RunError}
use Rattle.events.specs.declared.errors.RunError.TheVariants.{Input, Output, Memory, TooMany}
use Rattle.call_scripts.specs.Found.{status_of, last_line}
use Rattle.call_scripts.specs.Named.{Named, MayHold, MayCome, LookedAt, named_text, named_said, named_found, all_text, all_said, all_found}
use Rattle.call_scripts.specs.declared.check_ends.CheckEnd.{CheckEnd}
use Rattle.call_scripts.specs.declared.found.Found.{Found}

-- the last line stands behind the last script
abbrev pub last_behind : List (List ℕ) → Found → List ℕ
last_behind [] found = last_line found
last_behind (other ∷ others) found = []

-- a script was looked at: what came of it, was found in it and written of it, and what is to be said behind what was
abbrev pub HasCome : Option (Option (List ℕ)) → List ℕ → (old new : Option (List ℕ)) → (said said' : List ℕ) → Found → Type 0
HasCome held name old new said said' found = (came : Result (List ℕ) (List ℕ)) × MayCome held came × (found ≡ named_found came) × Appends old new (named_text name came) × (said' ≡ said ++ named_said name came)

-- of one script text is lost; or nothing of it is written, for it is unread and there is no memory to say so
abbrev pub LosesOne : Option (Option (List ℕ)) → List ℕ → RunError → (old new : Option (List ℕ)) → Type 0
LosesOne held name e old new = ((script : List ℕ) × MayHold held script × Loses e old new (named_text name (Ok script))) ⊎ Loses e old new []

-- a text and a last line behind it are lost: a write failed, and a front of both was written; or there is no memory, and some of the text was, it may be all of it, and nothing of the last line [script-files]
abbrev pub LosesAll : RunError → (old new : Option (List ℕ)) → (text last : List ℕ) → Type 0
LosesAll (Input e) old new text last = ⊥
LosesAll (Output e) old new text last = AppendsFront old new (text ++ last)
LosesAll Memory old new text last = AppendsSome old new text
LosesAll TooMany old new text last = ⊥

-- of the scripts that were looked at all is written, and there are no others; or text is lost [script-files]
abbrev pub Wrote : List Named → List (List ℕ) → (old new : Option (List ℕ)) → Result Found RunError → Type 0
Wrote named others old new (Ok found) = (others ≡ []) × (found ≡ all_found named) × Appends old new (all_text named ++ last_line found)
Wrote named others old new (Err e) = LosesAll e old new (all_text named) (last_behind others (all_found named))

-- all scripts were looked at: what was found in them and written of them, and what is to be said behind what was
pub record LookedAtAll (holds : List ℕ → Option (Option (List ℕ))) (names : List (List ℕ)) (old new : Option (List ℕ)) (said said' : List ℕ) (found : Found) : Type 0 where
  pub named : List Named
  pub looked : LookedAt holds names named []
  pub sum : found ≡ all_found named
  pub written : Appends old new (all_text named)
  pub gathered : said' ≡ said ++ all_said named

-- or some of them, and text is lost
abbrev pub HasLookedAt : (List ℕ → Option (Option (List ℕ))) → List (List ℕ) → (old new : Option (List ℕ)) → (said said' : List ℕ) → Result Found RunError → Type 0
HasLookedAt holds names old new said said' (Ok found) = LookedAtAll holds names old new said said' found
HasLookedAt holds names old new said said' (Err e) = (named : List Named) × (others : List (List ℕ)) × LookedAt holds names named others × Loses e old new (all_text named) × (said' ≡ said ++ all_said named)

-- and the last line is written
abbrev pub HasWritten : (List ℕ → Option (Option (List ℕ))) → List (List ℕ) → (old new : Option (List ℕ)) → (said said' : List ℕ) → Result Found RunError → Type 0
HasWritten holds names old new said said' result = (named : List Named) × (others : List (List ℕ)) × LookedAt holds names named others × Wrote named others old new result × (said' ≡ said ++ all_said named)

-- no line of any script says what it is to print
abbrev pub none_asked : List ℕ
none_asked = codes "run_calls: no line says what it is to print\n"

-- what is said at last: that nothing was asked for, or that lines are missing [script-status]
abbrev pub said_last : Result Found RunError → List ℕ
said_last (Ok found) = pick (eqb (status_of found) 2) none_asked []
said_last (Err e) = complaint

-- a check of all these scripts, and what was said of it [script-files]
abbrev pub HasCheckedAll : (List ℕ → Option (Option (List ℕ))) → List (List ℕ) → (old new errors errors' : Option (List ℕ)) → CheckEnd → Type 0
HasCheckedAll holds names old new errors errors' end =
    (named : List Named) × (others : List (List ℕ)) × LookedAt holds names named others × Wrote named others old new end.run × Said (all_said named ++ said_last end.run) errors errors' end.said

-- the exit status: 4 where lines are missing, else that of what was found [script-status]
abbrev pub exit_status_of : Result Found RunError → ℕ
exit_status_of (Ok found) = status_of found
exit_status_of (Err e) = 4

-- scripts of which all is known, and of which none was unread, have one text, and one thing is found in them [script-files]
abbrev pub OneCheck : Type 0
OneCheck = (holds : List ℕ → Option (Option (List ℕ))) (names : List (List ℕ)) (old : List ℕ) (new new' errors errors' errors'' : Option (List ℕ)) (found found' : Found) (said said' : Result Unit Error)
    → All (λ name. (script : List ℕ) × (holds name ≡ Some (Some script))) names → found.unread ≡ 0 → found'.unread ≡ 0
    → HasCheckedAll holds names (Some old) new errors errors' (record { run = Ok found; said = said }) → HasCheckedAll holds names (Some old) new' errors errors'' (record { run = Ok found'; said = said' })
    → (new ≡ new') × (found ≡ found')
