-- Tests of single tags: bits of the set outstanding, and entries as they are accepted, move and are opened.
use Rattle.std.proofs.Common.{◌≡◌, Bool, true, false, not, ◌&&◌, ◌||◌, ℕ, ◌-◌, ◌/◌, ◌%◌, ◌^◌, ◌<◌, min, arith, ltb, eqb, lt-ltb, le-ltb, ltb-true}
use Rattle.bits.specs.Bit.{bit_in, with_bit_in, clear_in}
use Rattle.std.proofs.lemmas.Nat.Bits.{bit_at-lt}
use Rattle.bits.proofs.Masks.{bit_set_same, bit_set_other, bit_clear}
use Rattle.bits.proofs.Picks.{and_left}

-- ---- bits

-- a tag more: its own bit is on, each other as it was
pub bit_with : (m t k : ℕ) → t < 32 → k < 32 → bit_in 32 (with_bit_in 32 m t) k ≡ (eqb k t || bit_in 32 m k)
bit_with m t k ht hk = rw (lt-ltb t 32 ht, lt-ltb k 32 hk) (grind (arith, bit_set_same m t, bit_set_other m t k))

-- one digit of `m & !s`, as a test
digit_clear : (a b : ℕ) → a < 2 → b < 2 → eqb (min a (1 - b)) 1 ≡ (not (eqb b 1) && eqb a 1)
digit_clear a b ha hb = grind arith

-- a set of tags fewer: their bits are off, each other as it was
pub bit_without : (m s k : ℕ) → s < 2 ^ 32 → k < 32 → bit_in 32 (clear_in 32 m s) k ≡ (not (bit_in 32 s k) && bit_in 32 m k)
bit_without m s k hs hk =
    rw (lt-ltb k 32 hk, bit_clear 32 m s k hs hk) (digit_clear (m / 2 ^ k % 2) (s / 2 ^ k % 2) (bit_at-lt m k) (bit_at-lt s k))

-- a tag that is outstanding is below 32
pub busy_below : (m t : ℕ) → bit_in 32 m t ≡ true → t < 32
busy_below m t h = ltb-true t 32 (and_left (ltb t 32) (eqb (m / 2 ^ t % 2) 1) h)

-- ---- what has moved of a command

-- one of the four clauses of what has moved of a command of `whole` bytes
abbrev pub wrong_move : ℕ → ℕ → Bool → Bool
wrong_move whole moved phase =
    (ltb whole moved || not (eqb (moved % 4) 0)) || ((not phase && (not (eqb moved 0) && not (eqb moved whole))) || (phase && eqb moved whole))

-- nothing has moved, and no phase is open
pub moved_none : (whole : ℕ) → wrong_move whole 0 false ≡ false
moved_none whole = rw (le-ltb whole 0 (omega arith))
