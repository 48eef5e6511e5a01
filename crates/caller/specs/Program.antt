-- What the event program plays, event by event, and the calls of the device that are made.
use Rattle.std.specs.Prelude.{◌≡◌, Bool, true, false, List, [], ◌∷◌, ℕ, ◌+◌, Some}
use Rattle.refusals.specs.declared.reasons.Refusal.TheVariants.{Contradiction}
use Rattle.device_state.specs.declared.shapes.Settings.{Settings}
use Rattle.device.specs.Device.{zero_device, power_on}
use Rattle.device.specs.Lent.{lent}
use Rattle.events.specs.Settings.{in_limit}
use Rattle.events.specs.Lines.{line_of}
use Rattle.events.specs.Running.{Kept, kept, after, told, started, start_line, Read, nothing, begun, kept_after, Plays}
use Rattle.events.specs.declared.asked.Event.{Event}
use Rattle.events.specs.Calls.{call_of}
use Rattle.history.specs.Event.{replied}
use Rattle.history.specs.Run.{result, Done, done, event}
use Rattle.history.specs.Follows.{history_of}
use Rattle.history.specs.Lasting.{Lasting}
use Rattle.caller.specs.Continued.{Holds}

-- the call that an event makes as the device takes it: lent what the run keeps, and what the device then gives [program-told]
abbrev pub call_in : Kept → Event → Done
call_in k e = let c = lent (call_of k.device e) k.medium k.reply in done c (result k.device c)

-- those of all events, each in what the last one left
unfoldable pub calls_in : Kept → List Event → List Done
calls_in k [] = []
calls_in k (e ∷ es) = call_in k e ∷ calls_in (after k e) es

-- behind an event the run keeps the state, medium and reply buffer that its call left, and its line shows that state, the refusal and the reply
pub record Shows (traced : Bool) (number : ℕ) (k : Kept) (e : Event) (x : Done) : Type 0 where
  pub kept : after k e ≡ kept x.gave.outcome.state x.gave.medium x.gave.buffer
  pub line : told traced number k e ≡ line_of traced number (event x).refusal x.gave.outcome.state.status.outstanding (replied (event x))

-- every event made its call and shows that, numbered on [program-told]
unfoldable pub EachShown : Bool → ℕ → Kept → List Event → Type 0
EachShown traced n k [] = Unit
EachShown traced n k (e ∷ es) = Shows traced n k e (call_in k e) × EachShown traced (n + 1) (after k e) es

-- power-on with the settings s, and its line, the first
pub record StartShown (traced : Bool) (s : Settings) : Type 0 where
  pub state : (started s).device ≡ (power_on s).state
  pub line : start_line traced s ≡ line_of traced 0 (power_on s).refusal (power_on s).state.status.outstanding []

-- what is played behind the settings s is a faithful history: from power-on its calls are as the device answers them, each event shows its own of them, all that is promised holds of their history, and of the one medium that they share it tells every byte [program-told] [finished-writes-stand]
pub record IsHistory (traced : Bool) (s : Settings) (es : List Event) : Type 0 where
  pub begins : StartShown traced s
  pub shown : EachShown traced 1 (started s) es
  pub holds : Holds s (power_on s) (calls_in (started s) es) (kept_after (started s) es).device
  pub media : Lasting (started s).medium (history_of (calls_in (started s) es))

-- there is no device, and nothing is played: the one line is that of refusal 1 [program-told]
pub record NoneStarts (traced : Bool) (s : Settings) (es : List Event) : Type 0 where
  pub state : (started s).device ≡ zero_device
  pub line : start_line traced s ≡ line_of traced 0 (Some Contradiction) 0 []
  pub none : es ≡ []

-- by whether the settings are in a run's limit
abbrev pub ByLimit : Bool → Bool → Settings → List Event → Type 0
ByLimit true traced s es = IsHistory traced s es
ByLimit false traced s es = NoneStarts traced s es

-- the first event is the settings; a run without them makes no call
unfoldable pub OfHistory : Bool → Read → Type 0
OfHistory traced nothing = Unit
OfHistory traced (begun s es) = ByLimit (in_limit s) traced s es

-- whatever a run reads and plays: the lines that it owes are those of a history [program-told]
abbrev pub EachRunIsHistory : Bool → Type 0
EachRunIsHistory traced = (all : Read) → Plays all → OfHistory traced all
