-- The host data that is due in any state, also one that contradicts itself.
use Rattle.std.specs.Prelude.{ℕ, ◌-◌, ◌*◌, min, slice_get, Option, Some, None, if◌then◌else◌}
use Rattle.std.specs.Option.{option_and_then}
use Rattle.device_state.specs.declared.shapes.Entry.{Entry}
use Rattle.device.specs.declared.state.Device.{Device}

-- of a write: 8,192 bytes, or what is left if less; a count above 65,536 is taken for that many, and of more bytes moved than there are nothing is left [data-due]
abbrev pub due_of : Entry → Option ℕ
due_of e = if e.write then Some (min 8192 (512 * min e.count 65536 - e.moved)) else None

-- of the entry of the phase's tag, if there is one; else none [data-due]
abbrev pub due_told : Device → Option ℕ
due_told d = option_and_then due_of (option_and_then (slice_get d.entries) d.status.phase)
