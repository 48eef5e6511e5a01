-- What the machine's own widths give of a device.
use Rattle.std.proofs.Common.{◌≡◌, ◌^◌, ◌<◌, length}
use Rattle.bits.specs.Little.{Bytes}
use Rattle.device_state.specs.State.{placed_bytes}
use Rattle.device.specs.declared.state.Device.{Device}

-- 32 entries, and 32 bits for the tags outstanding
pub record Sized (d : Device) : Type 0 where
  pub entries : length d.entries ≡ 32
  pub outstanding : d.status.outstanding < 2 ^ 32

-- the record's error and the command's bytes in it are bytes
pub record SizedRecord (d : Device) : Type 0 where
  pub error : d.errors.error < 256
  pub echo : Bytes (placed_bytes d.errors.echo)
