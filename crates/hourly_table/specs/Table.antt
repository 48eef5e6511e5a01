-- The hourly table.
use Rattle.std.specs.Prelude.{◌≡◌, ℕ, ◌+◌, ◌-◌, List, [], ◌∷◌, ◌++◌, codes, length, ltb, Result, Ok, Err}
use Rattle.std.specs.List.{flat_map, range_with_len}
use Rattle.bits.specs.Laid.{overlay}
use Rattle.hourly_table.specs.Samples.{Sampled}
use Rattle.hourly_table.specs.Changes.{change_in}
use Rattle.hourly_table.specs.Rows.{row_text}
use Rattle.hourly_table.specs.Refused.{TableTest, refuses, input_tests, first_refusal, unless_refused}
use Rattle.hourly_table.specs.declared.reasons.TableRefusal.{TableRefusal}
use Rattle.hourly_table.specs.declared.reasons.TableRefusal.TheVariants.{TableShort}

-- the first line [table-rows]
abbrev pub header : List ℕ
header = codes "hour,counter,change\r\n"

-- the hour of the last of some samples, of which s is the first
abbrev pub last_hour : Sampled → List Sampled → ℕ
last_hour s [] = s.hour
last_hour s (t ∷ ss) = last_hour t ss

-- every hour from the first to the last [table-rows]
abbrev pub hours_of : List Sampled → List ℕ
hours_of [] = []
hours_of (s ∷ ss) = range_with_len s.hour (last_hour s ss + 1 - s.hour)

-- the rows of an hour: a row for each number asked, in the order asked [table-rows]
unfoldable pub hour_rows : List Sampled → List ℕ → ℕ → List ℕ
hour_rows samples numbers hour = flat_map (λ number. row_text hour number (change_in samples hour number)) numbers

-- all rows, an hour behind the other
abbrev pub rows_of : List Sampled → List ℕ → List ℕ
rows_of samples numbers = flat_map (hour_rows samples numbers) (hours_of samples)

-- the header, and behind it the rows; of no samples the header alone [table-rows]
unfoldable pub table : List Sampled → List ℕ → List ℕ
table samples numbers = header ++ rows_of samples numbers

-- the input's tests, and behind them 71: the room is too short for the table [refused-71]
abbrev pub table_tests : List Sampled → List ℕ → ℕ → List TableTest
table_tests samples numbers room = input_tests samples numbers ++ refuses TableShort (ltb room (length (table samples numbers))) ∷ []

-- the length of the table, unless it is refused [refused-table]
abbrev pub table_size : List Sampled → List ℕ → ℕ → Result ℕ TableRefusal
table_size samples numbers room = unless_refused (first_refusal (table_tests samples numbers room)) (length (table samples numbers))

-- what stands in a buffer then: the table in front of what was there, or all as it was [refused-table]
abbrev pub written : List ℕ → Result ℕ TableRefusal → List ℕ → List ℕ
written table (Ok size) old = overlay table old
written table (Err refusal) old = old

-- what the writer promises: the length or the refusal, and all bytes of the buffer
pub record TableGiven (samples : List Sampled) (numbers : List ℕ) (old : List ℕ) (given : Result ℕ TableRefusal) (new : List ℕ) : Type 0 where
  pub answer : given ≡ table_size samples numbers (length old)
  pub bytes : new ≡ written (table samples numbers) given old
