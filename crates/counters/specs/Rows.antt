-- The sixteen rows of page 11h, in the order in which the page has them.
use Rattle.std.specs.Prelude.{ℕ, Bool, ◌&&◌, List, [], ◌∷◌, get_or, eqb, Option, Some, None, position}
use Rattle.bits.specs.Bit.{bit_in}
use Rattle.bits.specs.Answer.{Answer}

-- 16 rows, in this order: 001h-00Bh, 00Dh, 00Fh, 010h, 012h, 013h [rows]
unfoldable pub ids : List ℕ
ids = 0x001 ∷ 0x002 ∷ 0x003 ∷ 0x004 ∷ 0x005 ∷ 0x006 ∷ 0x007 ∷ 0x008 ∷ 0x009 ∷ 0x00A ∷ 0x00B ∷ 0x00D ∷ 0x00F ∷ 0x010 ∷ 0x012 ∷ 0x013 ∷ []

-- the identifier of a row
abbrev pub id_of : ℕ → ℕ
id_of row = get_or ids row 0

-- a 16-bit mask says which rows are kept [settings]
abbrev pub kept : ℕ → ℕ → Bool
kept mask row = bit_in 16 mask row

-- rows 0 (001h) and 9 (00Ah) always are [settings] [unfit-mask]
abbrev pub keeps_both : ℕ → Bool
keeps_both mask = kept mask 0 && kept mask 9

-- the row of an identifier, if it has one [rows]
unfoldable pub row_of : ℕ → Option ℕ
row_of number = position (λ id. eqb id number) ids

-- what each place tells: its row, or none [answer-values]
unfoldable pub place_answer : Option ℕ → Answer
place_answer (Some row) = record { number = 0; values = row ∷ [] }
place_answer None = record { number = 0; values = [] }
