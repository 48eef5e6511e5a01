-- What an answer tells in the words of the rules: its number, and its values.
use Rattle.std.specs.Prelude.{Bool, true, false, List, ℕ}

-- number 0 is an answer that was given, any other a refusal; what has no value tells none, which is not a value of 0 [answer-values]
pub record Answer : Type 0 where
  pub number : ℕ
  pub values : List ℕ

-- a flag as a number
abbrev pub bit_number : Bool → ℕ
bit_number true = 1
bit_number false = 0
