-- The numbers of counters that words tell.
use Rattle.std.specs.Prelude.{ℕ, Bool, ◌&&◌, ltb, if◌then◌else◌, List, [], ◌∷◌, length, Option, Some, None, Result, Ok, Err}
use Rattle.std.specs.Char.{is_ascii_hexdigit}
use Rattle.std.specs.List.{list_all}
use Rattle.std.specs.Str.Parse.{digits_value}

-- 1 to 4 hex digits of either case, and nothing else [hourly-counters]
abbrev pub is_number : List ℕ → Bool
is_number word = list_all is_ascii_hexdigit word && (ltb 0 (length word) && ltb (length word) 5)

-- the number that they tell
unfoldable pub number_of : List ℕ → Option ℕ
number_of word = if is_number word then Some (digits_value 16 word) else None

-- a word's number in front of numbers; or the word that tells none
abbrev pub number_before : List ℕ → Option ℕ → Result (List ℕ) (List ℕ) → Result (List ℕ) (List ℕ)
number_before word None more = Err word
number_before word (Some number) (Ok numbers) = Ok (number ∷ numbers)
number_before word (Some number) (Err other) = Err other

-- the number of every word, in their order; or the first word that tells none [hourly-counters]
unfoldable pub numbers_in : List (List ℕ) → Result (List ℕ) (List ℕ)
numbers_in [] = Ok []
numbers_in (word ∷ words) = number_before word (number_of word) (numbers_in words)
