-- Positions of a command: what is left, and where. What has moved is kept in bytes.
use Rattle.std.specs.Prelude.{Bool, true, false, ℕ, Option, None, unwrap_or}
use Rattle.bits.specs.Pick.{pick}
use Rattle.device_state.specs.Progress.{left_in, part_in, last_in, moved_on}
use Rattle.device_state.specs.Stored.{place_in}
use Rattle.device_state.specs.State.{whole_of}
use Rattle.device_state.specs.declared.shapes.Entry.{Entry}
use Rattle.device_state.specs.declared.shapes.Status.{Status}
use Rattle.rules.specs.declared.acts.Move.{Move}

-- what is left of a command, in bytes [refused-6]
abbrev pub left_of : Entry → ℕ
left_of e = left_in (whole_of e.count) e.moved

-- n bytes of it, or what is left if that is less
abbrev pub size_of : Entry → ℕ → ℕ
size_of e n = part_in (whole_of e.count) e.moved n

-- where the next byte of a command stands in the medium [host-data]
abbrev pub place_of : Entry → ℕ
place_of e = place_in e.first e.moved

-- the entry once n bytes have moved
unfoldable pub advanced_by : Entry → ℕ → Entry
advanced_by e n = record e { moved = moved_on e.moved n }

-- n bytes that move of a tag's command, or what is left if that is less; at nothing left it is the last
abbrev pub move_for : ℕ → Entry → ℕ → Move
move_for tag e n = record {
  tag = tag;
  at = place_of e;
  size = size_of e n;
  entry = advanced_by e (size_of e n);
  last = last_in (whole_of e.count) e.moved n;
}

-- the tag of the open phase, if one is open to write, or to read
abbrev pub phase_to : Status → Entry → Bool → Option ℕ
phase_to f e true = pick e.write f.phase None
phase_to f e false = pick e.write None f.phase

-- in the open phase; where none is open no call moves bytes, and any tag would do [send] [host-data]
unfoldable pub move_of : Status → Entry → ℕ → Move
move_of f e n = move_for (unwrap_or f.phase 0) e n
