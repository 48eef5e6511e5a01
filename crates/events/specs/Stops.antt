-- When a run ends with `stop`, and when its settings record is refused, in the words of the rules.
use Rattle.std.specs.Prelude.{Bool, true, not, ◌&&◌, ◌||◌, List, ℕ, ◌+◌, eqb, leb, length, get_or, Option, Some, None}
use Rattle.device_state.specs.Contradictory.{settings_out}
use Rattle.device_state.specs.declared.shapes.Settings.{Settings}
use Rattle.events.specs.Kinds.{kind_named, body_of}
use Rattle.events.specs.Settings.{in_limit}
use Rattle.events.specs.declared.kinds.Kind.{Kind}

-- no input, a first kind other than 00h, a body cut short [event-stop]
abbrev pub starts_none : List ℕ → Bool
starts_none l = not (leb 8 (length l) && eqb (get_or l 0 0) 0x00)

-- an unknown kind, or a body cut short
unfoldable pub not_whole : Option Kind → ℕ → Bool
not_whole (Some kind) have = not (leb (body_of kind + 1) have)
not_whole None have = true

-- nothing, an unknown kind, as 00h is behind the settings, or a body cut short [event-stop]
abbrev pub begins_none : List ℕ → Bool
begins_none l = not_whole (kind_named (get_or l 0 0)) (length l)

-- refusal 1: capacity above 64 here, or settings that power-on refuses [event-refused]
abbrev pub start_out : Settings → Bool
start_out s = not (in_limit s) || settings_out s
