-- The sum of a page: all bytes sum to 0 modulo 256, byte 511 sees to it.
use Rattle.std.specs.Prelude.{ℕ, ◌-◌, ◌%◌, List, set, sum}

-- the sum of all bytes, modulo 256 [page-sum]
unfoldable pub sum256 : List ℕ → ℕ
sum256 s = sum s % 256

-- what is missing to 0 modulo 256
abbrev pub sum_byte : List ℕ → ℕ
sum_byte s = (256 - sum256 s) % 256

-- a page whose byte 511 is still 0, with that byte set so that all bytes sum to 0 [page-sum]
unfoldable pub sealed_page : List ℕ → List ℕ
sealed_page p = set p 511 (sum_byte p)
