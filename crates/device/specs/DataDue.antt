-- The host data that is due.
use Rattle.std.specs.Prelude.{Bool, ◌&&◌, ℕ, Option, Some, None, is_some}
use Rattle.bits.specs.Pick.{pick}
use Rattle.device_state.specs.Progress.{due_in}
use Rattle.device_state.specs.State.{progress_of}
use Rattle.device_state.specs.declared.shapes.Entry.{Entry}
use Rattle.device.specs.FactsOf.{entry_meant}
use Rattle.device.specs.declared.state.Device.{Device}

-- the entry of the open phase; while none is open, an idle one
abbrev pub phase_entry : Device → Entry
phase_entry d = entry_meant d.entries d.status.phase

-- a write phase is open
abbrev pub writing : Device → Bool
writing d = is_some d.status.phase && (phase_entry d).write

-- the length due, by the open write phase and what is left of it; of none no data is due [data-due]
unfoldable pub data_due : Device → Option ℕ
data_due d = pick (writing d) (Some (due_in (progress_of (phase_entry d)))) None
