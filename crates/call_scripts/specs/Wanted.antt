-- What a line of a script is to print.
use Rattle.std.specs.Prelude.{ℕ, ◌-◌, Bool, false, ◌&&◌, ◌||◌, eqb, ltb, List, [], ◌∷◌, length, take, drop, get_or, Option, Some, None}
use Rattle.std.specs.Char.{is_ascii_whitespace}
use Rattle.std.specs.List.{prefix_len, suffix_len}
use Rattle.bits.specs.Pick.{pick}
use Rattle.call_scripts.specs.Parts.{before, behind}
use Rattle.call_scripts.specs.Words.{asked_text}

-- a text begins with `->`
abbrev pub is_arrow : List ℕ → Bool
is_arrow text = eqb (get_or text 0 0) 45 && eqb (get_or text 1 0) 62

-- without the blanks in front
abbrev pub begun : List ℕ → List ℕ
begun text = drop (prefix_len is_ascii_whitespace text) text

-- and without those at the end
abbrev pub trimmed : List ℕ → List ℕ
trimmed text = take (length (begun text) - suffix_len is_ascii_whitespace (begun text)) (begun text)

-- what stands behind `->`, and before a comment
abbrev pub wanted_in : List ℕ → Option (List ℕ)
wanted_in rest = pick (is_arrow rest) (Some (trimmed (before 35 (drop 2 rest)))) None

-- what a line is to print stands behind what it asks for; a line that is too long says nothing [script-check]
unfoldable pub wanted : List ℕ → Option (List ℕ)
wanted line = pick (ltb 65536 (length line)) None (wanted_in (drop (length (asked_text line)) line))

-- somewhere in a text stands `->`
unfoldable pub has_arrow : List ℕ → Bool
has_arrow [] = false
has_arrow (c ∷ cs) = is_arrow (c ∷ cs) || has_arrow cs

-- one that stands behind the `#` of a line: what it asks for is not held [script-check]
abbrev pub is_hidden : List ℕ → Bool
is_hidden line = has_arrow (behind 35 line)
