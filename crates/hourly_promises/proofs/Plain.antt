-- No field of a row needs quotes.
use Rattle.std.proofs.Common.{◌≡◌, refl, ap, ℕ, ◌/◌, ◌%◌, ◌<◌, ◌^◌, Bool, true, false, not, List, [], ◌∷◌, decimal, Option, Some, None, arith, T, eqb, ne_eqb, append_assoc, append-nil, lit<, mod-lt}
use Rattle.std.specs.Char.{digit_value}
use Rattle.std.specs.List.{list_any}
use Rattle.std.specs.Str.Parse.{AllDigits}
use Rattle.std.proofs.lemmas.Fmt.{decimal_is_IsNumeral}
use Rattle.bits.proofs.Tables.{below_all}
use Rattle.csv.specs.Writing.{needs_byte, fields_text, is_blank, row_text}
use Rattle.hourly_table.specs.Rows.{hex_digit, hex_number, field_text}
use Rattle.hourly_table.specs.Rows.{row_text as line_text}
use Rattle.hourly_promises.proofs.Parts.{row_parts}
use Rattle.hourly_promises.specs.Csv.{crlf_writer, fields_of}

not_true : (b : Bool) → T (not b) → b ≡ false
not_true false t = refl
not_true true t = absurd t

hex_plain : (n : ℕ) → n < 16 → needs_byte crlf_writer (hex_digit n) ≡ false
hex_plain n h = not_true (needs_byte crlf_writer (hex_digit n)) (below_all 16 (λ m. not (needs_byte crlf_writer (hex_digit m))) tt n h)

no_digit : (b m : ℕ) → digit_value b < 10 → 9 < digit_value m → eqb b m ≡ false
no_digit b m h l = ne_eqb b m (λ e. let v = ap digit_value e in omega arith)

digit_plain : (d : ℕ) → digit_value d < 10 → needs_byte crlf_writer d ≡ false
digit_plain d h = rw (no_digit d 44 h (lit< tt), no_digit d 34 h (lit< tt), no_digit d 13 h (lit< tt), no_digit d 10 h (lit< tt)) refl

digits_plain : (ds : List ℕ) → AllDigits 10 ds → list_any (needs_byte crlf_writer) ds ≡ false
digits_plain [] a = refl
digits_plain (d ∷ ds) a = rw (digit_plain d a.0) (digits_plain ds a.1)

-- each of the three fields
pub hour_plain : (n : ℕ) → n < 2 ^ 64 → list_any (needs_byte crlf_writer) (decimal n) ≡ false
hour_plain n h = digits_plain (decimal n) (decimal_is_IsNumeral n h).0.1

pub number_plain : (n : ℕ) → list_any (needs_byte crlf_writer) (hex_number n) ≡ false
number_plain n =
    rw (hex_plain (n / 256 % 16) (mod-lt (n / 256) (lit< tt)), hex_plain (n / 16 % 16) (mod-lt (n / 16) (lit< tt)), hex_plain (n % 16) (mod-lt n (lit< tt))) refl

pub change_plain : (change : Option ℕ) → ((c : ℕ) → change ≡ Some c → c < 2 ^ 64) → list_any (needs_byte crlf_writer) (field_text change) ≡ false
change_plain None small = refl
change_plain (Some c) small = hour_plain c (small c refl)

pub row_is_csv : (hour number : ℕ) (change : Option ℕ) → hour < 2 ^ 64 → ((c : ℕ) → change ≡ Some c → c < 2 ^ 64) → line_text hour number change ≡ row_text crlf_writer (fields_of hour number change)
unfolding fields_text is_blank
row_is_csv hour number change h small = rw (row_parts hour number change, hour_plain hour h, number_plain number, change_plain change small) (simp (append_assoc, append-nil))
