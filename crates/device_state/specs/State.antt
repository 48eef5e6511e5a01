-- What the state holds of a command and of an error.
use Rattle.std.specs.Prelude.{false, List, [], ◌∷◌, ℕ, ◌*◌, min}
use Rattle.bits.specs.Little.{byte_of}
use Rattle.frames.specs.Shared.{task_of, tag_of}
use Rattle.frames.specs.declared.shared.Task.{Task}
use Rattle.device_state.specs.declared.progress.Progress.{Progress}
use Rattle.device_state.specs.declared.ranges.Sectors.{Sectors}
use Rattle.device_state.specs.declared.shapes.Echo.{Echo}
use Rattle.device_state.specs.declared.shapes.Entry.{Entry}
use Rattle.device_state.specs.declared.shapes.ErrorRecord.{ErrorRecord}

-- the command's bytes, each at its place in a frame
abbrev pub placed_bytes : Echo → List ℕ
placed_bytes e = 0 ∷ 0 ∷ 0 ∷ 0 ∷ e.b4 ∷ e.b5 ∷ e.b6 ∷ e.b7 ∷ e.b8 ∷ e.b9 ∷ e.b10 ∷ 0 ∷ e.b12 ∷ e.b13 ∷ []

-- what they name [repeats]
unfoldable pub task_in : Echo → Task
task_in e = task_of (placed_bytes e)

-- the tag that they name
abbrev pub tag_in : Echo → ℕ
tag_in e = tag_of (task_in e).count

-- the bytes of what a frame named [repeats]
unfoldable pub echo_of : Task → Echo
echo_of t = record {
  b4 = byte_of t.lba 0;
  b5 = byte_of t.lba 1;
  b6 = byte_of t.lba 2;
  b7 = t.device;
  b8 = byte_of t.lba 3;
  b9 = byte_of t.lba 4;
  b10 = byte_of t.lba 5;
  b12 = byte_of t.count 0;
  b13 = byte_of t.count 1;
}

-- the bytes of a medium of so many sectors [medium]
abbrev pub medium_size : ℕ → ℕ
medium_size capacity = 512 * capacity

-- the bytes of a command of so many sectors; more than 65,536 no command has (`settings_out`, `past_capacity`), and then as many count, so that 32 bits hold them [dma-setup] [moved-above]
abbrev pub whole_of : ℕ → ℕ
whole_of count = 512 * min count 65536

-- the bytes of a command as a whole, and what has moved of them
abbrev pub progress_of : Entry → Progress
progress_of e = record { whole = whole_of e.count; moved = e.moved }

-- the sectors of a command
abbrev pub sectors_of : Entry → Sectors
sectors_of e = record { first = e.first; count = e.count }

-- no bytes of a command: all 0
abbrev pub zero_echo : Echo
zero_echo = record { b4 = 0; b5 = 0; b6 = 0; b7 = 0; b8 = 0; b9 = 0; b10 = 0; b12 = 0; b13 = 0 }

-- an idle tag's entry is zero [state]
abbrev pub zero_entry : Entry
zero_entry = record { write = false; first = 0; count = 0; moved = 0; features = 0; features_high = 0; echo = zero_echo }

-- a blank record [blank]
abbrev pub blank_record : ErrorRecord
blank_record = record { set = false; nq = false; tag = 0; error = 0; echo = zero_echo }
