-- The bytes of a command with another LBA.
use Rattle.std.proofs.Common.{◌≡◌, ℕ, ◌<◌, arith}
use Rattle.device_state.specs.State.{task_in, echo_of}
use Rattle.device_state.specs.declared.shapes.Echo.{Echo}
use Rattle.rules.specs.Act.{failing}

-- the sector stands in those of the LBA, and the other bytes stay
pub failing_is : (e : Echo) (sector : ℕ) → e.b12 < 256 → e.b13 < 256 → echo_of (record (task_in e) { lba = sector }) ≡ failing e sector
unfolding task_in echo_of failing
failing_is e sector l h = grind arith
