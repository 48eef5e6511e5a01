-- What is written for the events of a run.
use Rattle.std.specs.Prelude.{◌≡◌, Bool, true, false, List, [], ◌∷◌, ◌++◌, ℕ, suc, ◌+◌, length, flat_map, replicate, is_some, codes}
use Rattle.bits.specs.Pick.{pick}
use Rattle.bits.specs.Laid.{overlay}
use Rattle.device_state.specs.State.{medium_size}
use Rattle.device_state.specs.declared.shapes.Settings.{Settings}
use Rattle.device.specs.Step.{Step, bytes_of}
use Rattle.device.specs.declared.state.Device.{Device}
use Rattle.events.specs.Grammar.{event_bytes, Fits, NoEventBegins}
use Rattle.events.specs.Calls.{event_step}
use Rattle.events.specs.declared.asked.Event.{Event}
use Rattle.events.specs.Settings.{settings_bytes, SettingsFit, NoSettingsBegin}
use Rattle.events.specs.Start.{start_of}
use Rattle.events.specs.declared.kinds.InputEnd.{InputEnd}
use Rattle.events.specs.declared.kinds.InputEnd.TheVariants as ends
use Rattle.events.specs.Reading.{end_at}
use Rattle.events.specs.Lines.{line_of}

-- what a run keeps between two events
pub record Kept : Type 0 where
  pub device : Device
  pub medium : List ℕ
  pub reply : List ℕ

-- these three
abbrev pub kept : Device → List ℕ → List ℕ → Kept
kept d m b = record { device = d; medium = m; reply = b }

-- the step of an event in what is kept
abbrev pub step_of : Kept → Event → Step
step_of k event = event_step k.device event k.medium k.reply

-- what a step leaves behind
abbrev pub after_step : Kept → Step → Kept
after_step k s = kept s.state s.medium (overlay (bytes_of s) k.reply)

-- the line of a step: its refusal, the tags outstanding after it, and its replies
abbrev pub step_told : Bool → ℕ → Step → List ℕ
step_told traced number s = line_of traced number s.refusal s.state.status.outstanding (bytes_of s)

-- what an event leaves behind [event-run]
unfoldable pub after : Kept → Event → Kept
after k event = after_step k (step_of k event)

-- its line [event-lines]
unfoldable pub told : Bool → ℕ → Kept → Event → List ℕ
told traced number k event = step_told traced number (step_of k event)

-- the lines of events, numbered on, each played in what the last one left [event-lines]
unfoldable pub lines_from : Bool → ℕ → Kept → List Event → List ℕ
lines_from traced n k [] = []
lines_from traced n k (e ∷ es) = told traced n k e ++ lines_from traced (n + 1) (after k e) es

-- what is kept behind all of them
unfoldable pub kept_after : Kept → List Event → Kept
kept_after k [] = k
kept_after k (e ∷ es) = kept_after (after k e) es

-- each is of its widths
unfoldable pub AllFit : List Event → Type 0
AllFit [] = Unit
AllFit (e ∷ es) = Fits e × AllFit es

-- what a run has read: nothing yet, or a settings record and the events behind it
pub data Read : Type 0 where
  nothing : Read
  begun : Settings → List Event → Read

-- their bytes [event-reads]
abbrev pub bytes_read : Read → List ℕ
bytes_read nothing = []
bytes_read (begun s es) = settings_bytes s ++ flat_map event_bytes es

-- how many events they are, the settings among them
abbrev pub count_read : Read → ℕ
count_read nothing = 0
count_read (begun s es) = suc (length es)

-- what is written at a run's end [event-stop]
unfoldable pub ending : InputEnd → List ℕ
ending ends.NoEvent = codes "stop\n"
ending ends.Clean = []
ending ends.Refused = []

-- the settings are refused
abbrev pub refused : Settings → Bool
refused s = is_some (start_of s).refusal

-- what a run begins with: a medium of zeros, and a reply buffer of zeros
unfoldable pub started : Settings → Kept
started s = kept (start_of s).state (replicate (medium_size (start_of s).state.settings.capacity) 0) (replicate 8196 0)

-- the line of the settings record, the first: there is no reply
abbrev pub start_line : Bool → Settings → List ℕ
start_line traced s = line_of traced 0 (start_of s).refusal (start_of s).state.status.outstanding []

-- the lines of a run, of which the first event is the settings [event-refused]
unfoldable pub run_lines : Bool → Read → List ℕ
run_lines traced nothing = []
run_lines traced (begun s es) = start_line traced s ++ lines_from traced 1 (started s) es

-- what a run reads and plays: behind refused settings no events [event-refused]
unfoldable pub Plays : Read → Type 0
Plays nothing = Unit
Plays (begun s es) = SettingsFit s × AllFit es × (refused s ≡ true → es ≡ [])

-- behind these a run reads on: not behind refused settings
unfoldable pub ReadsOn : Read → Type 0
ReadsOn nothing = Unit
ReadsOn (begun s es) = refused s ≡ false

-- what is left begins with nothing that a run would read there: a settings record first and once, and then an event; behind refused settings nothing is looked at [event-stop]
unfoldable pub NoneFollows : Read → List ℕ → Type 0
NoneFollows nothing rest = NoSettingsBegin rest
NoneFollows (begun s es) rest = refused s ≡ false → NoEventBegins rest

-- how the input ends then: without settings never cleanly, behind refused settings always [event-stop] [event-refused]
unfoldable pub end_behind : Read → List ℕ → InputEnd
end_behind nothing rest = ends.NoEvent
end_behind (begun s es) rest = pick (refused s) ends.Refused (end_at rest)
