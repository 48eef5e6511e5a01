-- Single bits of a number of w digits.
use Rattle.std.specs.Prelude.{Bool, true, false, ◌&&◌, ℕ, ◌-◌, ◌/◌, ◌%◌, ◌^◌, eqb, ltb}
use Rattle.std.specs.Int.Bits.{bit_and, bit_or}
use Rattle.bits.specs.Pick.{pick}

-- bit t of m is on; an index of w or more gives false [ends]
abbrev pub bit_in : ℕ → ℕ → ℕ → Bool
bit_in w m t = ltb t w && eqb (m / 2 ^ t % 2) 1

-- m with bit t on; with an index of w or more, m as it is
abbrev pub with_bit_in : ℕ → ℕ → ℕ → ℕ
with_bit_in w m t = pick (ltb t w) (bit_or m (2 ^ t)) m

-- m with all bits of s off
abbrev pub clear_in : ℕ → ℕ → ℕ → ℕ
clear_in w m s = bit_and m ((2 ^ w - 1) - s)

-- 2 ^ k where the flag is on, else 0
abbrev pub bit_byte : Bool → ℕ → ℕ
bit_byte true k = 2 ^ k
bit_byte false k = 0
