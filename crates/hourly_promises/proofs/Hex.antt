-- The three hex digits of a counter's number.
use Rattle.std.proofs.Common.{◌≡◌, refl, ℕ, zero, suc, ◌/◌, ◌%◌, ◌<◌, ◌≤◌, Bool, true, false, T, eqb, leb, leb-true, eqb-true, length, get_or, arith, lit<, mod-lt}
use Rattle.std.specs.Char.{digit_value}
use Rattle.std.specs.Str.Parse.{digits_value}
use Rattle.bits.proofs.Tables.{below_all}
use Rattle.hourly_table.specs.Rows.{hex_digit, hex_number}

is_true : (b : Bool) → T b → b ≡ true
is_true true t = refl
is_true false t = absurd t

digit_read : (m : ℕ) → m < 16 → digit_value (hex_digit m) ≡ m
digit_read m h = eqb-true (digit_value (hex_digit m)) m (is_true (eqb (digit_value (hex_digit m)) m) (below_all 16 (λ m. eqb (digit_value (hex_digit m)) m) tt m h))

digit_upper : (m : ℕ) → m < 16 → hex_digit m ≤ 70
digit_upper m h = leb-true (hex_digit m) 70 (is_true (leb (hex_digit m) 70) (below_all 16 (λ m. leb (hex_digit m) 70) tt m h))

pub number_length : (number : ℕ) → length (hex_number number) ≡ 3
number_length number = refl

pub number_read : (number : ℕ) → number < 4096 → digits_value 16 (hex_number number) ≡ number
number_read number h =
    rw (digit_read (number / 256 % 16) (mod-lt (number / 256) (lit< tt)), digit_read (number / 16 % 16) (mod-lt (number / 16) (lit< tt)), digit_read (number % 16) (mod-lt number (lit< tt)))
    (omega arith)

pub number_upper : (number k d : ℕ) → k < 3 → get_or (hex_number number) k d ≤ 70
number_upper number zero d h = digit_upper (number / 256 % 16) (mod-lt (number / 256) (lit< tt))
number_upper number (suc zero) d h = digit_upper (number / 16 % 16) (mod-lt (number / 16) (lit< tt))
number_upper number (suc (suc zero)) d h = digit_upper (number % 16) (mod-lt number (lit< tt))
number_upper number (suc (suc (suc k))) d h = absurd (omega arith)
