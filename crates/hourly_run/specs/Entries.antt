-- A line of samples: an hour, a blank, and what stands behind it.
use Rattle.std.specs.Prelude.{ℕ, ◌+◌, ◌-◌, ◌^◌, ◌==◌, Bool, ◌&&◌, if◌then◌else◌, List, length, take, drop, get_or, ltb, leb, Option, Some, None, Result, Ok, Err}
use Rattle.std.specs.List.{position}
use Rattle.std.specs.Str.{all_ascii_digits}
use Rattle.std.specs.Str.Parse.{digits_value}
use Rattle.hourly_run.specs.Faults.{no_lf, no_blank, no_hour}

-- 1 to 20 decimal digits, and nothing else, whose number 64 bits hold [hourly-line]
abbrev pub is_hour : List ℕ → Bool
is_hour digits = (leb 1 (length digits) && leb (length digits) 20) && (all_ascii_digits digits && ltb (digits_value 10 digits) (2 ^ 64))

-- the number that they tell
unfoldable pub hour_of : List ℕ → Option ℕ
hour_of digits = if is_hour digits then Some (digits_value 10 digits) else None

-- a line that ends in LF, without it [hourly-line]
unfoldable pub whole_line : List ℕ → Option (List ℕ)
whole_line line = if get_or line (length line - 1) 0 == 10 then Some (take (length line - 1) line) else None

-- where its first blank stands
abbrev pub blank_in : List ℕ → Option ℕ
blank_in entry = position (λ b. b == 32) entry

-- an hour and what stands behind it; or what is wrong with the line
abbrev pub Entry : Type 0
Entry = Result (ℕ × List ℕ) (List ℕ)

-- the hour in front of a blank, and what stands behind that
abbrev pub entry_behind : List ℕ → Option ℕ → Entry
entry_behind behind None = Err no_hour
entry_behind behind (Some hour) = Ok (hour, behind)

abbrev pub entry_at : List ℕ → Option ℕ → Entry
entry_at entry None = Err no_blank
entry_at entry (Some blank) = entry_behind (drop (blank + 1) entry) (hour_of (take blank entry))

abbrev pub entry_in : Option (List ℕ) → Entry
entry_in None = Err no_lf
entry_in (Some entry) = entry_at entry (blank_in entry)

-- of the first blank, in a line that ends in LF [hourly-line]
unfoldable pub entry_of : List ℕ → Entry
entry_of line = entry_in (whole_line line)
