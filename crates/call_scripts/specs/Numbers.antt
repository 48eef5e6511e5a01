-- Numbers as a line tells them.
use Rattle.std.specs.Prelude.{ℕ, ◌+◌, ◌*◌, nat_lt, eqb, leb, List, [], ◌∷◌, length, Option, Some, None}
use Rattle.std.specs.Char.{digit_value}
use Rattle.std.specs.Option.{option_and_then}
use Rattle.bits.specs.Pick.{pick}

-- the value of a hex digit of either case
abbrev pub digit_of : ℕ → Option ℕ
digit_of c = pick (nat_lt (digit_value c) 16) (Some (digit_value c)) None

-- the number of n's digits and those behind them [script-numbers]
unfoldable pub number_from : ℕ → List ℕ → Option ℕ
number_from n [] = Some n
number_from n (c ∷ cs) = option_and_then (λ v. number_from (16 * n + v) cs) (digit_of c)

-- a number too large for its place is none
abbrev pub at_most : ℕ → Option ℕ → Option ℕ
at_most most (Some n) = pick (leb n most) (Some n) None
at_most most None = None

-- the number that a word tells, if it has a digit and is at most so large [script-numbers]
abbrev pub number_within : ℕ → List ℕ → Option ℕ
number_within most word = pick (eqb (length word) 0) None (at_most most (number_from 0 word))
