-- A page that was written in hex is read back.
use Rattle.std.proofs.Common.{◌≡◌, ℕ, zero, suc, ◌/◌, ◌%◌, true, false, not, List, [], ◌∷◌, length, slice_index, Some, refl, ap, ◌∙◌, arith}
use Rattle.std.specs.Char.{is_ascii_whitespace}
use Rattle.std.specs.List.{All, list_all}
use Rattle.std.proofs.lemmas.List.Elements.{All-cons, All-head, All-nil, All-tail}
use Rattle.std.proofs.lemmas.List.Splits.{slice_split_none}
use Rattle.hex.specs.Hex.{IsBytes, encode_lower, encode_with, lower_digits}
use Rattle.hex.proofs.HexLemmas.{decode_sized-encode_lower, length-encode_with}
use Rattle.page_text.specs.declared.parsing.Notation.{Notation}
use Rattle.page_text.specs.declared.parsing.Notation.TheVariants.{Bytes, Words}
use Rattle.page_text.specs.HexText.{digits_each, digits_in, in_order, in_units, page_of}
use Rattle.page_text.specs.HexWords.{swapped_bytes}

-- no white space
abbrev IsDark : ℕ → Type 0
IsDark c = is_ascii_whitespace c ≡ false

-- no digit of a table is white space, which computes
dark_at : (table : List ℕ) → list_all (λ c. not (is_ascii_whitespace c)) table ≡ true → (d : ℕ) → IsDark (slice_index table d)
dark_at [] h d = refl
dark_at (x ∷ xs) h zero = grind arith
dark_at (x ∷ xs) h (suc d) = dark_at xs (grind arith) d

-- nor a text of its digits
All-encode_with : (table bytes : List ℕ) → ((d : ℕ) → IsDark (slice_index table d)) → All IsDark (encode_with table bytes)
unfolding encode_with
All-encode_with table [] h = All-nil IsDark
All-encode_with table (b ∷ rest) h = All-cons IsDark (slice_index table (b / 16)) (slice_index table (b % 16) ∷ encode_with table rest) (h (b / 16))
    (All-cons IsDark (slice_index table (b % 16)) (encode_with table rest) (h (b % 16)) (All-encode_with table rest h))

-- a text with no white space is digits alone
digits_in_dark : (text : List ℕ) → All IsDark text → digits_in text ≡ text
unfolding digits_in
digits_in_dark [] h = refl
digits_in_dark (c ∷ rest) h = rw (All-head IsDark c rest h) (ap (λ (l : List ℕ). c ∷ l) (digits_in_dark rest (All-tail IsDark c rest h)))

-- and of whole units where it is as long
in_units_dark : (notation : Notation) (text : List ℕ) → All IsDark text → length text % digits_each notation ≡ 0 → in_units notation text ≡ true
unfolding in_units
in_units_dark notation text h even = rw (slice_split_none is_ascii_whitespace text h, even)

-- 1,024 digits are whole units
whole_page : (notation : Notation) → 1024 % digits_each notation ≡ 0
whole_page notation = grind arith

-- the bytes of 512 that were written in hex, in the page's order
page_of_encode_lower : (notation : Notation) (bytes : List ℕ) → length bytes ≡ 512 → IsBytes bytes → page_of notation (encode_lower bytes) ≡ Some (in_order notation bytes)
unfolding page_of
page_of_encode_lower notation bytes size fit =
    let dark = All-encode_with lower_digits bytes (dark_at lower_digits refl) in
    let long : length (encode_lower bytes) ≡ 1024 = omega (arith, length-encode_with lower_digits bytes) in
    let whole = in_units_dark notation (encode_lower bytes) dark (rw long (whole_page notation)) in
    rw (whole, digits_in_dark (encode_lower bytes) dark, decode_sized-encode_lower bytes 512 size fit)

-- swapped twice, all is as it was
swapped_swapped : (page : List ℕ) → swapped_bytes (swapped_bytes page) ≡ page
unfolding swapped_bytes
swapped_swapped [] = refl
swapped_swapped (last ∷ []) = refl
swapped_swapped (high ∷ low ∷ rest) = ap (λ (l : List ℕ). high ∷ low ∷ l) (swapped_swapped rest)

-- and as long
length_swapped : (page : List ℕ) → length (swapped_bytes page) ≡ length page
unfolding swapped_bytes
length_swapped [] = refl
length_swapped (last ∷ []) = refl
length_swapped (high ∷ low ∷ rest) = ap (λ (n : ℕ). suc (suc n)) (length_swapped rest)

-- and bytes
IsBytes-swapped : (page : List ℕ) → IsBytes page → IsBytes (swapped_bytes page)
unfolding swapped_bytes
IsBytes-swapped [] h i = h i
IsBytes-swapped (last ∷ []) h i = h i
IsBytes-swapped (high ∷ low ∷ rest) h zero = h 1
IsBytes-swapped (high ∷ low ∷ rest) h (suc zero) = h 0
IsBytes-swapped (high ∷ low ∷ rest) h (suc (suc i)) = IsBytes-swapped rest (λ j. h (suc (suc j))) i

-- a page that was written byte for byte is read back
pub bytes_read_back : (page : List ℕ) → length page ≡ 512 → IsBytes page → page_of Bytes (encode_lower page) ≡ Some page
bytes_read_back page size fit = page_of_encode_lower Bytes page size fit

-- and one that was written in words, the high byte first
pub words_read_back : (page : List ℕ) → length page ≡ 512 → IsBytes page → page_of Words (encode_lower (swapped_bytes page)) ≡ Some page
words_read_back page size fit =
    let size' = length_swapped page ∙ size in
    page_of_encode_lower Words (swapped_bytes page) size' (IsBytes-swapped page fit) ∙ ap Some (swapped_swapped page)
