-- The entries of page 11h.
use Rattle.std.specs.Prelude.{ℕ, zero, suc, ◌+◌, ◌*◌, ◌/◌, ◌%◌, Bool, not, ◌&&◌, ◌||◌, List, [], ◌∷◌, ltb, leb, eqb}
use Rattle.bits.specs.Pick.{pick}
use Rattle.bits.specs.Bit.{bit_in}
use Rattle.bits.specs.Little.{le_at}

-- an entry: where its identifier stands, and the identifier
pub record CounterEntry : Type 0 where
  pub place : ℕ
  pub id : ℕ

abbrev pub counter_entry : ℕ → ℕ → CounterEntry
counter_entry place id = record { place = place; id = id }

-- the identifier that stands at a place, and its entry
unfoldable pub id_at : List ℕ → ℕ → ℕ
id_at page at = le_at page at 2

abbrev pub entry_at : List ℕ → ℕ → CounterEntry
entry_at page at = counter_entry at (id_at page at)

-- width bits 14:12; the low 12 bits, which are the counter's number; bit 15, a vendor's [widths]
abbrev pub width_of : ℕ → ℕ
width_of id = id / 4096 % 8

abbrev pub number_in : ℕ → ℕ
number_in id = id % 4096

abbrev pub vendor_of : ℕ → Bool
vendor_of id = bit_in 16 id 15

-- widths of 1 to 4 mean 2, 4, 6, 8 value bytes [widths]
abbrev pub bytes_in : ℕ → ℕ
bytes_in id = 2 * width_of id

-- where an entry's value ends
abbrev pub end_of : CounterEntry → ℕ
end_of e = e.place + 2 + bytes_in e.id

-- 22, first clause, of one entry: its width is not 1 to 4 [damaged-width]
abbrev pub wrong_width : CounterEntry → Bool
wrong_width e = ltb (width_of e.id) 1 || ltb 4 (width_of e.id)

-- 22, second clause, of one entry: identifier or value pass 508 (the value ends behind the identifier) [damaged-end]
abbrev pub past_end : CounterEntry → Bool
past_end e = ltb 508 (end_of e)

-- 22, third clause, of one entry: not a vendor's, and its low 12 bits are 0 (0000h ends the walk, and is no entry) [damaged-nameless]
abbrev pub nameless : CounterEntry → Bool
nameless e = not (vendor_of e.id) && eqb (number_in e.id) 0

-- the identifier is the asked counter's; those with bit 15 are stepped over [vendor]
abbrev pub id_asked : ℕ → ℕ → Bool
id_asked number id = not (vendor_of id) && eqb (number_in id) number

abbrev pub entry_asked : ℕ → CounterEntry → Bool
entry_asked number e = id_asked number e.id

-- the walk ends at 508 or at identifier 0000h
abbrev pub ends_at : List ℕ → ℕ → Bool
ends_at page at = leb 508 at || eqb (id_at page at) 0

-- the entries from a place on: they end at identifier 0000h or at 508, and with one behind which no next place is known.
-- Each is at least 4 bytes long, so that a fuel of 508 is never used up (`entries_fuel`) [walk]
unfoldable pub entries_from : List ℕ → ℕ → ℕ → List CounterEntry
entries_from page zero at = []
entries_from page (suc fuel) at =
    pick (ends_at page at) []
    (entry_at page at ∷ pick (wrong_width (entry_at page at) || past_end (entry_at page at)) [] (entries_from page fuel (end_of (entry_at page at))))

-- the walk starts at 4 [walk]
unfoldable pub entries : List ℕ → List CounterEntry
entries page = entries_from page 508 4
