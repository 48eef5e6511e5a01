-- The words of a line.
use Rattle.std.specs.Prelude.{ℕ, ◌^◌, ◌-◌, Bool, true, not, ◌&&◌, ◌||◌, eqb, List, [], ◌∷◌, length, take, drop, get_or, filter, slice_get, Option, Some, None}
use Rattle.std.specs.Char.{is_ascii_whitespace}
use Rattle.std.specs.List.{slice_split}
use Rattle.std.specs.Option.{option_and_then, option_map}
use Rattle.std.specs.Str.{bytes_eq}
use Rattle.bits.specs.Pick.{pick}
use Rattle.call_scripts.specs.Numbers.{number_within}

-- here a comment begins, or what a line is to print: `#`, or `->`
abbrev pub ends_at : ℕ → List ℕ → Bool
ends_at c cs = eqb c 35 || (eqb c 45 && eqb (get_or cs 0 0) 62)

-- what a line asks for stands before these [script-words]
unfoldable pub asked_text : List ℕ → List ℕ
asked_text [] = []
asked_text (c ∷ cs) = pick (ends_at c cs) [] (c ∷ asked_text cs)

-- between two blanks that follow one another is no word
abbrev pub is_word : List ℕ → Bool
is_word piece = not (eqb (length piece) 0)

-- the words of a text, which blanks separate [script-words]
unfoldable pub words_of : List ℕ → List (List ℕ)
words_of text = filter is_word (slice_split is_ascii_whitespace text)

-- the number that the word in a place tells, if it is at most so large
abbrev pub number_at : List (List ℕ) → ℕ → ℕ → Option ℕ
number_at words place most = option_and_then (number_within most) (slice_get words place)

-- a place of 32 bits
abbrev pub long_at : List (List ℕ) → ℕ → Option ℕ
long_at words place = number_at words place (2 ^ 32 - 1)

-- a place of 16 bits
abbrev pub short_at : List (List ℕ) → ℕ → Option ℕ
short_at words place = number_at words place (2 ^ 16 - 1)

-- a byte's
abbrev pub byte_at : List (List ℕ) → ℕ → Option ℕ
byte_at words place = number_at words place (2 ^ 8 - 1)

-- a flag's, which is 0 or 1
abbrev pub flag_at : List (List ℕ) → ℕ → Option Bool
flag_at words place = option_map (λ n. eqb n 1) (number_at words place 1)

-- a line has so many words as it is to have, if that is fixed
abbrev pub fits : Option ℕ → ℕ → Bool
fits (Some count) have = eqb have count
fits None have = true

-- the number that stands behind a name, as `lba=5`, if it is at most so large
abbrev pub named_number : List ℕ → ℕ → List ℕ → Option ℕ
named_number name most word = pick (bytes_eq (take (length name) word) name) (number_within most (drop (length name) word)) None

-- that of the word in a place
abbrev pub named_at : List (List ℕ) → ℕ → List ℕ → ℕ → Option ℕ
named_at words place name most = option_and_then (named_number name most) (slice_get words place)
