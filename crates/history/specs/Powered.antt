-- Power-on by the settings alone.
use Rattle.std.specs.Prelude.{◌≡◌, [], ◌∷◌, ℕ, Option}
use Rattle.refusals.specs.First.{rung, first_of}
use Rattle.refusals.specs.declared.reasons.Refusal.{Refusal}
use Rattle.refusals.specs.declared.reasons.Refusal.TheVariants.{Contradiction}
use Rattle.history.specs.Refused.{out_of_bounds}

-- refused with 1 exactly where the settings are out of bounds, and no reply [powered-exactly]
pub record Powered (deep capacity mask : ℕ) (refusal' : Option Refusal) (len : ℕ) : Type 0 where
  pub refusal : refusal' ≡ first_of (rung Contradiction (out_of_bounds deep capacity mask) ∷ [])
  pub silent : len ≡ 0
