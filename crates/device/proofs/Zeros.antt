-- Every call on the zeros of a refused power-on is refused with 1.
use Rattle.std.proofs.Common.{Some, ◌≡◌}
use Rattle.refusals.specs.declared.reasons.Refusal.TheVariants.{Contradiction}
use Rattle.device.specs.Device.{zero_device}
use Rattle.device.specs.Lent.{Lent}
use Rattle.device.specs.Step.{step}
use Rattle.device.proofs.Never.{zeros_contradict}
use Rattle.device.proofs.Contradicted.{contradicted}

-- they contradict themselves
pub zeros : (l : Lent) → (step zero_device l).refusal ≡ Some Contradiction
zeros l = contradicted zero_device l zeros_contradict
