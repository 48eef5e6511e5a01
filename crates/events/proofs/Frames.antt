-- The frame of host data.
use Rattle.std.proofs.Common.{unwrap_or, ◌≤◌, lit≤}
use Rattle.device.specs.DataDue.{data_due}
use Rattle.device.specs.declared.state.Device.{Device}
use Rattle.device.proofs.Due.{due_most}

-- what is due, or 4 if nothing is, fits in the longest frame
pub due_within : (d : Device) → unwrap_or (data_due d) 4 ≤ 8192
due_within d = due_most d 4 (lit≤ tt)
