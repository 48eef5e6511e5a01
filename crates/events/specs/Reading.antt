-- What is told of the settings record, and of the next event.
use Rattle.std.specs.Prelude.{◌≡◌, ◌+◌, ◌<◌, List, [], ◌∷◌, ℕ, length, take, IfSome, Option, Some, None, Result, Ok, Err}
use Rattle.std.specs.Io.KnownBytes.{Consumes, Keeps}
use Rattle.device_state.specs.declared.shapes.Settings.{Settings}
use Rattle.events.specs.declared.kinds.InputEnd.{InputEnd}
use Rattle.events.specs.declared.kinds.InputEnd.TheVariants as ends
use Rattle.events.specs.declared.asked.Event.{Event}
use Rattle.events.specs.declared.kinds.Kind.{Kind}
use Rattle.events.specs.Kinds.{body_of, event_by_kind}
use Rattle.events.specs.Grammar.{event_bytes, Fits, BeginsWith, NoEventBegins}
use Rattle.events.specs.Settings.{settings_bytes, SettingsFit, NoSettingsBegin}

-- how an input of which l is left ends, if no event begins that: cleanly if nothing is left [event-stop]
unfoldable pub end_at : List ℕ → InputEnd
end_at [] = ends.Clean
end_at (b ∷ l) = ends.NoEvent

-- no event begins what is left, and so the input ends
abbrev pub IsEnd : InputEnd → List ℕ → Type 0
IsEnd end l = NoEventBegins l × (end ≡ end_at l)

-- the bytes of a settings record were read, and no more; or the bytes that were left, whatever they are, begin with none [event-reads]
abbrev pub ReadSettings : Option (List ℕ) → Option Settings → Option (List ℕ) → Type 0
ReadSettings old (Some s) new = SettingsFit s × Consumes old new (settings_bytes s)
ReadSettings old None new = IfSome old NoSettingsBegin

-- the bytes of an event were read, and no more; or the bytes that were left, whatever they are, are the input's end [event-reads]
abbrev pub ReadNext : Option (List ℕ) → Result Event InputEnd → Option (List ℕ) → Type 0
ReadNext old (Ok event) new = Fits event × Consumes old new (event_bytes event)
ReadNext old (Err end) new = IfSome old (IsEnd end)

-- so is an event read ahead; where none is, nothing is read
abbrev pub ReadAhead : Option (List ℕ) → Option Event → Option (List ℕ) → Type 0
ReadAhead old (Some event) new = ReadNext old (Ok event) new
ReadAhead old None new = Keeps old new

-- to read the next event may have to wait: few bytes lie in the reader's buffer, and no event begins them [event-reads]
abbrev pub MayWait : List ℕ → Type 0
MayWait buffer = (length buffer < 20) × NoEventBegins buffer

-- a read failed: what came before it begins with nothing that was to be read
abbrev pub BreaksIn : (List ℕ → Type 0) → Option (List ℕ) → Option (List ℕ) → Type 0
BreaksIn N old new = (part : List ℕ) × Consumes old new part × N part

-- the first n bytes of l are an event of that kind, and the event is what is taken from them [event-reads]
pub record KindBegins (l : List ℕ) (kind : Kind) (n : ℕ) : Type 0 where
  pub size : n ≡ body_of kind + 1
  pub begins : BeginsWith l (event_by_kind (take n l) kind) n

-- the kind of the event that bytes begin with, and how many of them are its; or none begins them [no-event]
abbrev pub FirstKind : List ℕ → Option (Kind × ℕ) → Type 0
FirstKind l (Some found) = KindBegins l found.0 found.1
FirstKind l None = NoEventBegins l
