-- A log page told in hex, byte for byte or in words.
use Rattle.std.specs.Prelude.{ℕ, ◌%◌, ◌==◌, Bool, not, if◌then◌else◌, List, length, filter}
use Rattle.std.specs.Char.{is_ascii_whitespace}
use Rattle.std.specs.List.{slice_split, list_all}
use Rattle.std.specs.Option.{option_map}
use Rattle.std.specs.Result.{result_ok}
use Rattle.std.specs.declared.option.Option.{Option}
use Rattle.std.specs.declared.option.Option.TheVariants.{None}
use Rattle.hex.specs.Hex.{decode_sized}
use Rattle.page_text.specs.HexWords.{swapped_bytes}
use Rattle.page_text.specs.declared.parsing.Notation.{Notation}
use Rattle.page_text.specs.declared.parsing.Notation.TheVariants.{Bytes, Words}

-- a byte has two digits, and a word four
abbrev pub digits_each : Notation → ℕ
digits_each Bytes = 2
digits_each Words = 4

-- what stands between white space are whole bytes, or whole words [text-hex]
unfoldable pub in_units : Notation → List ℕ → Bool
in_units notation text = list_all (λ group. length group % digits_each notation == 0) (slice_split is_ascii_whitespace text)

-- the text without its white space [text-hex]
unfoldable pub digits_in : List ℕ → List ℕ
digits_in text = filter (λ c. not (is_ascii_whitespace c)) text

-- what the digits tell, in the order of the page: a word tells its high byte first, and the page holds its low one first
abbrev pub in_order : Notation → List ℕ → List ℕ
in_order Bytes told = told
in_order Words told = swapped_bytes told

-- the page that a text tells: whole bytes or words between white space, and without it the digits of just 512 bytes [text-hex]
unfoldable pub page_of : Notation → List ℕ → Option (List ℕ)
page_of notation text = if in_units notation text then option_map (in_order notation) (result_ok (decode_sized (digits_in text) 512)) else None
