-- Laws of single bits and masks, over the width and the index. Bit `t` of `m` is `m / 2 ^ t % 2`.
use Rattle.std.proofs.Common.{◌≡◌, sym, ap, ◌∙◌, ℕ, zero, suc, ◌+◌, ◌-◌, ◌*◌, ◌/◌, ◌%◌, ◌^◌, ◌≤◌, ◌<◌, min, false, mod-lt, pow-suc, le_of_suc-le-suc, one-add, arith, pow_pos, shr-shr, bit_and, bit_or, ltb}
use mathlib.Core.Bool.{and-false}
use native.Mathlib.Nat.{zero-div}
use Rattle.std.proofs.lemmas.Nat.Bits.{bit_at_or, bit_at_and, bit_at-pow_same, bit_at-pow_other, bit_at-lt, bit_at-zero, same_from_bits_below}
use lib.Pow.{ones_sub-lt, pow-lt, split}
use lib.Bits.{and_block, and_lt}
use Rattle.bits.specs.Bit.{bit_in}

-- a mask of two runs: the digits from k on by a, those below by b
pub and_two : (n k a b : ℕ) → b < 2 ^ k → bit_and n (a * 2 ^ k + b) ≡ bit_and (n / 2 ^ k) a * 2 ^ k + bit_and (n % 2 ^ k) b
and_two n k a b h = ap (λ (x : ℕ). bit_and x (a * 2 ^ k + b)) (sym (split n k)) ∙ and_block k (n / 2 ^ k) a (n % 2 ^ k) b (mod-lt n (pow_pos k)) h

-- no bit of 0 is on
pub no_bit : (t : ℕ) → bit_in 32 0 t ≡ false
no_bit t = rw (zero-div (2 ^ t)) (and-false (ltb t 32))

-- ---- the bits of `!m`, below the width
not_odd : (p m : ℕ) → m < p * 2 → ((p * 2 - 1) - m) / 1 % 2 ≡ 1 - m / 1 % 2
not_odd p m h = omega arith

not_half : (p m : ℕ) → m < p * 2 → ((p * 2 - 1) - m) / 2 ≡ (p - 1) - m / 2
not_half p m h = omega arith

pub bit_not : (w m t : ℕ) → m < 2 ^ w → t < w → ((2 ^ w - 1) - m) / 2 ^ t % 2 ≡ 1 - m / 2 ^ t % 2
bit_not zero m t hm ht = absurd (omega arith)
bit_not (suc w) m zero hm ht = rw (pow-suc 2 w) (not_odd (2 ^ w) m (rw (pow-suc 2 w) at hm))
bit_not (suc w) m (suc t) hm ht =
    let h : m < 2 ^ w * 2 = rw (pow-suc 2 w) at hm in
    rw (← (one-add t), ← (shr-shr ((2 ^ suc w - 1) - m) 1 t), ← (shr-shr m 1 t), pow-suc 2 w, not_half (2 ^ w) m h)
    (bit_not w (m / 2) t (omega arith) (le_of_suc-le-suc ht))

-- ---- a bit set, and bits cleared: `m | 1 << t`, `m & !s`
pub bit_set_same : (m t : ℕ) → bit_or m (2 ^ t) / 2 ^ t % 2 ≡ 1
bit_set_same m t = bit_at_or m (2 ^ t) t ∙ omega (arith, bit_at-pow_same t, bit_at-lt m t)

pub bit_set_other : (m t k : ℕ) → (k ≡ t → ⊥) → bit_or m (2 ^ t) / 2 ^ k % 2 ≡ m / 2 ^ k % 2
bit_set_other m t k ne = bit_at_or m (2 ^ t) k ∙ omega (arith, bit_at-pow_other t k ne)

pub bit_clear : (w m s k : ℕ) → s < 2 ^ w → k < w → bit_and m ((2 ^ w - 1) - s) / 2 ^ k % 2 ≡ min (m / 2 ^ k % 2) (1 - s / 2 ^ k % 2)
bit_clear w m s k hs hk = bit_at_and m ((2 ^ w - 1) - s) k ∙ ap (min (m / 2 ^ k % 2)) (bit_not w s k hs hk)

pub bit_clear_same : (w m t : ℕ) → t < w → bit_and m ((2 ^ w - 1) - 2 ^ t) / 2 ^ t % 2 ≡ 0
bit_clear_same w m t h = bit_clear w m (2 ^ t) t (pow-lt h) h ∙ omega (arith, bit_at-pow_same t)

pub bit_clear_other : (w m t k : ℕ) → t < w → k < w → (k ≡ t → ⊥) → bit_and m ((2 ^ w - 1) - 2 ^ t) / 2 ^ k % 2 ≡ m / 2 ^ k % 2
bit_clear_other w m t k h hk ne = bit_clear w m (2 ^ t) k (pow-lt h) hk ∙ omega (arith, bit_at-pow_other t k ne, bit_at-lt m k)

-- ---- `s & !m == 0`: every bit of s is one of m, and the other way round
pub subset_bits : (w m s : ℕ) → m < 2 ^ w → bit_and s ((2 ^ w - 1) - m) ≡ 0 → (k : ℕ) → k < w → s / 2 ^ k % 2 ≤ m / 2 ^ k % 2
subset_bits w m s hm e k hk =
    let z : bit_and s ((2 ^ w - 1) - m) / 2 ^ k % 2 ≡ 0 = ap (λ (x : ℕ). x / 2 ^ k % 2) e ∙ bit_at-zero k in
    omega (arith, bit_clear w s m k hm hk, bit_at-lt s k, bit_at-lt m k)

pub bits_subset : (w m s : ℕ) → m < 2 ^ w → s < 2 ^ w → ((k : ℕ) → k < w → s / 2 ^ k % 2 ≤ m / 2 ^ k % 2) → bit_and s ((2 ^ w - 1) - m) ≡ 0
bits_subset w m s hm hs h =
    same_from_bits_below w (bit_and s ((2 ^ w - 1) - m)) 0 (and_lt w s ((2 ^ w - 1) - m) hs (ones_sub-lt w m)) (pow_pos w)
    (λ k hk. let b = h k hk in bit_clear w s m k hm hk ∙ omega (arith, bit_at-zero k, bit_at-lt s k, bit_at-lt m k))
