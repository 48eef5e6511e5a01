-- Sets of 32 tags, and the empty one; and the test whether something is there.
use Rattle.std.proofs.Common.{Option, None, is_none, ◌≡◌, sym, ap, ◌∙◌, true, false, true≢false, ℕ, ◌/◌, ◌%◌, ◌^◌, ◌<◌, arith, eqb, lit<, lt-ltb}
use native.Mathlib.Nat.{zero-div}
use borrow.Author.Tests.{eqb-false}
use Rattle.bits.specs.Bit.{bit_in}
use Rattle.bits.proofs.Masks.{no_bit}
use Rattle.std.proofs.lemmas.Nat.Bits.{bit_at-lt, same_from_bits_below}

-- a set that is 0 holds no tag
pub no_busy : (m t : ℕ) → m ≡ 0 → bit_in 32 m t ≡ true → ⊥
no_busy m t z e = true≢false (sym e ∙ ap (λ (x : ℕ). bit_in 32 x t) z ∙ no_bit t)

-- a number of 32 bits none of which is on
pub no_bits : (m : ℕ) → m < 2 ^ 32 → ((t : ℕ) → t < 32 → bit_in 32 m t ≡ false) → m ≡ 0
no_bits m l h =
    same_from_bits_below 32 m 0 l (lit< tt)
    (λ t u.
    let e : eqb (m / 2 ^ t % 2) 1 ≡ false = rw (lt-ltb t 32 u) at (h t u) in
    omega (arith, eqb-false (m / 2 ^ t % 2) 1 e, bit_at-lt m t, ap (λ (n : ℕ). n % 2) (zero-div (2 ^ t))))

-- ---- nothing is there, or something

pub is_none_true : {A : Type 0} (o : Option A) → is_none o ≡ true → o ≡ None
is_none_true o e = grind arith

pub is_none_false : {A : Type 0} (o : Option A) → is_none o ≡ false → o ≡ None → ⊥
is_none_false o e z = grind arith
