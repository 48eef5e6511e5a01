-- Laws of outcomes: they are known by their parts, and a call answers once.
use Rattle.std.proofs.Common.{◌≡◌, ℕ, List, arith}
use Rattle.device.specs.Lent.{gave}
use Rattle.device.specs.Step.{Step, Gives}
use Rattle.device.specs.declared.state.Outcome.{Outcome}

-- a step has one answer
pub given_once : (s : Step) (b : List ℕ) (r r' : Outcome) (m m' x x' : List ℕ) → Gives s b (gave r m x) → Gives s b (gave r' m' x') → (r ≡ r') × ((m ≡ m') × (x ≡ x'))
given_once s b r r' m m' x x' p q = grind arith
