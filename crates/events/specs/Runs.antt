-- What a run writes for what it reads, for each way in which it may end.
use Rattle.std.specs.Prelude.{◌≡◌, Bool, true, false, List, [], ◌++◌, ◌⊎◌, ℕ, ◌-◌, ◌^◌, Option, Some, Result, Ok, Err, IfSome}
use Rattle.std.specs.Io.KnownBytes.{Appends, Consumes}
use Rattle.events.specs.declared.kinds.InputEnd.{InputEnd}
use Rattle.events.specs.declared.kinds.InputEnd.TheVariants as ends
use Rattle.events.specs.declared.errors.RunError.{RunError}
use Rattle.events.specs.declared.errors.RunError.TheVariants.{Input, Output, Memory, TooMany}
use Rattle.events.specs.Reading.{BreaksIn}
use Rattle.events.specs.Settings.{settings_bytes, SettingsFit}
use Rattle.device_state.specs.declared.shapes.Settings.{Settings}
use Rattle.streams.specs.Fronts.{AppendsFront}
use Rattle.streams.specs.Gathered.{Gathering, Gathered}
use Rattle.streams.specs.Lost.{complaint}
use Rattle.events.specs.Ends.{last_text, reads_failed, error_status, IsLost}
use Rattle.events.specs.Running.{Kept, Read, bytes_read, count_read, refused, started, start_line, run_lines, Plays, ReadsOn, NoneFollows, end_behind}

-- what a run came to behind all that it read and played, by what was left of the input then (now) and what is left of it (left): its end; a read that failed, behind a part that begins with none; or the last number, so that the event which has it is the last [event-stop] [event-broken]
abbrev pub CameTo : Result InputEnd RunError → Read → (now left : Option (List ℕ)) → Type 0
CameTo (Ok end) all now left = IfSome now (λ rest. NoneFollows all rest × (end ≡ end_behind all rest))
CameTo (Err (Input e)) all now left = ReadsOn all × BreaksIn (NoneFollows all) now left
CameTo (Err TooMany) all now left = (count_read all ≡ 2 ^ 64 - 1) × (now ≡ left)
CameTo (Err e) all now left = ⊥

-- the input begins with events that a run plays, behind which it came so far (C), and of their lines it is known what was written (W) [event-run]
pub record Wrote (traced : Bool) (known : Option (List ℕ)) (C : Read → Option (List ℕ) → Type 0) (W : List ℕ → Type 0) : Type 0 where
  pub all : Read
  pub now : Option (List ℕ)
  pub events : Plays all
  pub read : Consumes known now (bytes_read all)
  pub came : C all now
  pub written : W (run_lines traced all)

-- a write failed before a run came to an end: of the lines of the events that it read it is known what was written (W) [event-lost]
abbrev pub WroteSoFar : Bool → (known left : Option (List ℕ)) → (List ℕ → Type 0) → Type 0
WroteSoFar traced known left W = Wrote traced known (λ all now. now ≡ left) W

-- a run came to an end, where a read failed (input) or not, and of its lines and its last text it is known what was written (W) [event-run]
abbrev pub EndsWith : Bool → (known left : Option (List ℕ)) → (input : Bool) → Result InputEnd RunError → (List ℕ → Type 0) → Type 0
EndsWith traced known left input end W = (input ≡ reads_failed end) × Wrote traced known (λ all now. CameTo end all now left) (λ lines. W (lines ++ last_text end))

-- the whole run by what failed. Where no write did: it came to an end, which is its result, and all is written. Where one did, that is its result, and a front of what was due is written and not all: at the end, or before, and then no read has failed [event-run] [event-broken] [event-lost]
abbrev pub Ran : Bool → (known left : Option (List ℕ)) → (input output : Bool) → (old new : Option (List ℕ)) → Result InputEnd RunError → Type 0
Ran traced known left input false old new r = EndsWith traced known left input r (Appends old new)
Ran traced known left input true old new r = IsLost r × (((input ≡ false) × WroteSoFar traced known left (AppendsFront old new)) ⊎ ((end : Result InputEnd RunError) × EndsWith traced known left input end (AppendsFront old new)))

-- the exit status of a program by its run: 0 where all was played, 1 behind the `stop` of an input that ended in no event and refused settings, and else that of the error [event-status]
abbrev pub run_status : Result InputEnd RunError → ℕ
run_status (Ok ends.Clean) = 0
run_status (Ok ends.NoEvent) = 1
run_status (Ok ends.Refused) = 1
run_status (Err e) = error_status e

-- what is said aloud of a run by its result: that lines are missing [event-lost]
abbrev pub said_of : {T : Type 0} → Result T RunError → List ℕ
said_of (Ok u) = []
said_of (Err (Input e)) = []
said_of (Err (Output e)) = complaint
said_of (Err Memory) = complaint
said_of (Err TooMany) = []

-- a text was said, or a front of it where that failed: where nothing is to be said nothing fails [event-lost]
abbrev pub Said : List ℕ → (errors errors' : Option (List ℕ)) → {E : Type 0} → Result Unit E → Type 0
Said text errors errors' (Ok u) = Appends errors errors' text
Said text errors errors' (Err e) = AppendsFront errors errors' text

-- a text was said; or a write of it failed, and a front of it stands there and not all [event-lost]
abbrev pub SaidBy : (failed : Bool) → List ℕ → (errors errors' : Option (List ℕ)) → Type 0
SaidBy false text errors errors' = Appends errors errors' text
SaidBy true text errors errors' = AppendsFront errors errors' text

-- the exit status of a program by the run of its scripts: 0 where they ended, and else that of the error
abbrev pub exit_status_of : Result Unit RunError → ℕ
exit_status_of (Ok u) = 0
exit_status_of (Err e) = error_status e

-- the run from its settings on, with no line gathered yet: whatever began with their bytes, it is the whole run of that
abbrev pub StartedWith : Bool → Settings → Gathering → (known left : Option (List ℕ)) → (input output : Bool) → (new : Option (List ℕ)) → Result InputEnd RunError → Type 0
StartedWith traced s gathered known left input output new result = (base before : Option (List ℕ)) → Gathered base [] gathered → SettingsFit s → Consumes before known (settings_bytes s) → Ran traced before left input output base new result

-- the run behind settings that were taken, with what is kept, and of whose line it is known what was written: of whatever settings these are
abbrev pub PlayedOn : Bool → Kept → Gathering → (known left : Option (List ℕ)) → (input output : Bool) → (new : Option (List ℕ)) → Result InputEnd RunError → Type 0
PlayedOn traced k gathered known left input output new result =
    (s : Settings) (base before : Option (List ℕ)) → refused s ≡ false → k ≡ started s → Gathered base (start_line traced s) gathered → SettingsFit s → Consumes before known (settings_bytes s) → Ran traced before left input output base new result

-- one input has one text and one end: outputs that an end of the input allows for the same bytes read are equal, and so are the ends, where nothing failed [event-run]
abbrev pub OneText : Type 0
OneText = (traced : Bool) (input old : List ℕ) (left left' new new' : Option (List ℕ)) (end end' : InputEnd) → Ran traced (Some input) left false false (Some old) new (Ok end) → Ran traced (Some input) left' false false (Some old) new' (Ok end') → (new ≡ new') × (end ≡ end')

-- and so are the outputs that a failed read allows
abbrev pub OneBroken : Type 0
OneBroken = (traced : Bool) (input left old : List ℕ) (new new' : Option (List ℕ)) (r r' : Result InputEnd RunError) → Ran traced (Some input) (Some left) true false (Some old) new r → Ran traced (Some input) (Some left) true false (Some old) new' r' → new ≡ new'
