-- What is under way, and how it changes.
use Rattle.std.specs.Prelude.{Bool, ℕ, eqb, Option, Some, None, is_some}
use Rattle.std.specs.Option.{option_eq}
use Rattle.bits.specs.Bit.{with_bit_in, clear_in}
use Rattle.device_state.specs.declared.shapes.Status.{Status}

-- nothing outstanding, no phase open
abbrev pub none_under_way : Bool → Bool → Status
none_under_way halted held = record { outstanding = 0; phase = None; halted = halted; held = held }

-- a phase is open on the link: what 5 for commands and BIST and 8 read, and nothing else [refused-5] [refused-8]
abbrev pub link_busy : Status → Bool
link_busy s = is_some s.phase

-- the open phase is that of a tag
abbrev pub open_for : Option ℕ → ℕ → Bool
open_for phase t = option_eq eqb phase (Some t)

-- a tag more is outstanding
abbrev pub with_tag : Status → ℕ → Status
with_tag s tag = record { outstanding = with_bit_in 32 s.outstanding tag; phase = s.phase; halted = s.halted; held = s.held }

-- the tags of a set no longer are
abbrev pub without_tags : Status → ℕ → Status
without_tags s set = record { outstanding = clear_in 32 s.outstanding set; phase = s.phase; halted = s.halted; held = s.held }
