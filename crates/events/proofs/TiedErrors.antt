-- What the contract of a run's error says.
use Rattle.std.proofs.Common.{refl, ◌≡◌}
use Rattle.bits.specs.Contract.{Tied}
use Rattle.bits.proofs.Tying.{same, say, by}
use Rattle.events.specs.Ends.{error_status}
use Rattle.events.proofs.errors
use Rattle.events.specs.contracts.errors as errors-said

pub tied_exit_status : Tied errors-said.RunError.exit_status.ended errors.RunError.exit_status.Reads.Asked errors.RunError.exit_status.Reads.Post (λ κs a r ws. r ≡ error_status a.0.now)
tied_exit_status = by (say (λ κs a. tt) (λ κs a r ws p. p)) (λ κs a r r' ws ws' p q. (same p q, refl))
