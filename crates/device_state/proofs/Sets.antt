-- A walk over the tags of a set, the lowest first.
use Rattle.std.proofs.Common.{◌≡◌, ◌≢◌, sym, ap, true, false, ℕ, ◌<◌, ◌^◌, ◌*◌, ◌%◌, ◌&&◌, arith, eqb, ltb, w32}
use Rattle.std.proofs.lemmas.Bool.Decides.{nat_tests}
use Rattle.std.proofs.lemmas.Nat.{and_le_l}
use Rattle.std.proofs.lemmas.Nat.Bits.{bit_at-trailing_zeros, bit_at_clear_same, bit_at_clear_other}
use Rattle.std.specs.Int.{bit_at, bit_not, trailing_zeros}
use Rattle.std.specs.Int.Bits.{bit_and}
use Rattle.bits.specs.Bit.{bit_in}

-- the lowest tag of a set that is not empty
module _ (n : ℕ) (some : 0 < n) (fits : n < 2 ^ 32) where
  abbrev pub lowest : ℕ
  lowest = trailing_zeros w32 n

  -- the set without it
  abbrev pub others : ℕ
  others = bit_and n (bit_not w32 (1 * 2 ^ lowest % 2 ^ 32))

  pub there : (lowest < 32) × (bit_at n lowest ≡ 1)
  there = let h = bit_at-trailing_zeros w32 n some fits in (h.0, h.1)

  gone : bit_at others lowest ≡ 0
  gone = bit_at_clear_same w32 n lowest there.0

  pub fewer : others < n
  fewer = let h : others ≢ n = λ e. omega (arith, rw e at gone, there.1) in omega (arith, h, and_le_l n (bit_not w32 (1 * 2 ^ lowest % 2 ^ 32)))

  pub asked : bit_in 32 n lowest ≡ true
  asked = grind (arith, nat_tests, there.0, there.1)

  pub dropped : bit_in 32 others lowest ≡ false
  dropped = rw gone (grind (arith, nat_tests))

  pub kept : (i : ℕ) → i < 32 → i ≢ lowest → bit_in 32 n i ≡ bit_in 32 others i
  kept i l h = ap (λ (b : ℕ). ltb i 32 && eqb b 1) (sym (bit_at_clear_other w32 n lowest there.0 i l h))
