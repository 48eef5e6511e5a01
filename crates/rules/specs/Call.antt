-- The calls of the device: what is asked of it.
use Rattle.std.specs.Prelude.{List, ℕ}
use Rattle.rules.specs.declared.event.DeviceEvent.{DeviceEvent}

-- a host frame as its bytes, or a device event
pub data Call : Type 0 where
  host_frame : List ℕ → Call
  happens : DeviceEvent → Call
