-- The decimal digits of short numbers.
use Rattle.std.proofs.Common.{◌≡◌, ℕ, ◌+◌, ◌<◌, ◌≤◌, ◌/◌, ◌%◌, [], ◌∷◌, decimal, Option, arith, refl}
use Rattle.std.proofs.lemmas.Fmt.{decimal_digit, decimal_step}
use Rattle.refusals.specs.Number.{number_told}
use Rattle.refusals.specs.declared.reasons.Refusal.{Refusal}

pub digits_one : (n : ℕ) → n < 10 → decimal n ≡ (48 + n) ∷ []
digits_one n h = decimal_digit n h

pub digits_two : (n : ℕ) → 10 ≤ n → n < 100 → decimal n ≡ (48 + n / 10) ∷ (48 + n % 10) ∷ []
digits_two n l h = rw (decimal_step n l (omega arith), decimal_digit (n / 10) (omega arith)) refl

-- a refusal's number has one or two
pub told_short : (r : Option Refusal) → number_told r < 100
told_short r = grind arith
