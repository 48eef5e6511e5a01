-- Laws of the pieces that frames share.
use Rattle.std.proofs.Common.{◌≡◌, refl, sym, ◌∙◌, Bool, false, ◌&&◌, ⊎_elim, ℕ, ◌*◌, ◌/◌, ◌^◌, ◌≤◌, ◌<◌, div-lt_iff_lt-mul, arith, eqb, ltb, pow_pos, eq-eqb, ne_eqb, lt-ltb, le-ltb, bit_and}
use native.Mathlib.Nat.{div-eq_of_lt}
use Rattle.std.proofs.lemmas.Nat.Bits.{bit_at_above, bit_at_and}
use Rattle.bits.specs.Bit.{bit_in}
use Rattle.std.proofs.lemmas.Bool.{cases_lt}

not_zero : (k x : ℕ) → 2 ^ k ≤ x → x / 2 ^ k ≡ 0 → ⊥
not_zero k x h e =
    let p = pow_pos k in
    let l : x < 1 * 2 ^ k = (div-lt_iff_lt-mul (pow_pos k)).0 (omega arith) in
    omega arith

-- `x >> k == 0` says that x is not too large for k bits
pub high_zero : (k x : ℕ) → eqb (x / 2 ^ k) 0 ≡ ltb x (2 ^ k)
high_zero k x =
    ⊎_elim (λ (h : x < 2 ^ k). eq-eqb (x / 2 ^ k) 0 (div-eq_of_lt h) ∙ sym (lt-ltb x (2 ^ k) h))
    (λ (h : 2 ^ k ≤ x). ne_eqb (x / 2 ^ k) 0 (not_zero k x h) ∙ sym (le-ltb x (2 ^ k) h)) (cases_lt x (2 ^ k))

-- a byte has no bit from 8 on
pub bit_of_byte : (b k : ℕ) → b < 256 → bit_in 32 b k ≡ bit_in 8 b k
bit_of_byte b k h =
    ⊎_elim (λ (l : k < 8). rw (lt-ltb k 8 l, lt-ltb k 32 (omega arith)) refl)
    (λ (l : 8 ≤ k). rw (le-ltb k 8 l, bit_at_above b 8 k h l) (none (ltb k 32))) (cases_lt k 8)
  where
    none : (t : Bool) → t && false ≡ false
    none t = grind arith

-- a flag that a mask names stays under it
pub flag_40 : (b : ℕ) → bit_in 8 (bit_and b 0x40) 6 ≡ bit_in 8 b 6
flag_40 b = grind (arith, bit_at_and b 0x40 6)

pub flag_60 : (b : ℕ) → bit_in 8 (bit_and b 0x60) 6 ≡ bit_in 8 b 6
flag_60 b = grind (arith, bit_at_and b 0x60 6)

pub flag_60_5 : (b : ℕ) → bit_in 8 (bit_and b 0x60) 5 ≡ bit_in 8 b 5
flag_60_5 b = grind (arith, bit_at_and b 0x60 5)

-- what the check needs of it
pub ruleset named_flags = (flag_40, flag_60, flag_60_5)
