-- A row of the table.
use Rattle.std.specs.Prelude.{ℕ, ◌/◌, ◌%◌, List, [], ◌∷◌, ◌++◌, decimal, codes, get_or, Option, Some, None}

-- an upper-case hex digit
abbrev pub hex_digit : ℕ → ℕ
hex_digit n = get_or (codes "0123456789ABCDEF") n 0

-- a counter's number, of twelve bits, in three of them [table-row]
abbrev pub hex_number : ℕ → List ℕ
hex_number number = hex_digit (number / 256 % 16) ∷ hex_digit (number / 16 % 16) ∷ hex_digit (number % 16) ∷ []

-- a change in decimal; where there is none the field is empty, and not 0 [table-row]
abbrev pub field_text : Option ℕ → List ℕ
field_text None = []
field_text (Some change) = decimal change

-- hour, counter, change, with a comma between them and CR LF behind [table-row]
unfoldable pub row_text : ℕ → ℕ → Option ℕ → List ℕ
row_text hour number change = decimal hour ++ codes "," ++ hex_number number ++ codes "," ++ field_text change ++ codes "\r\n"
