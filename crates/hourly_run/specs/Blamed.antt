-- What is said of a table that is refused: which counter, or which line, and why.
use Rattle.std.specs.Prelude.{ℕ, ◌+◌, Bool, true, false, List, [], ◌++◌, codes, decimal, find, get_or, length, ltb, map, unwrap_or, if◌then◌else◌, Option, Some, None}
use Rattle.refusals.specs.declared.reasons.Refusal.{Refusal}
use Rattle.refusals.specs.declared.reasons.Refusal.TheVariants.{PageLength, PageSum, PageDamaged, NoCounter}
use Rattle.pages.specs.Read11.{no_number}
use Rattle.page_text.specs.Words.{upper}
use Rattle.hourly_table.specs.Samples.{Sampled}
use Rattle.hourly_table.specs.Refused.{table_number}
use Rattle.hourly_table.specs.Places.{place_of}
use Rattle.hourly_table.specs.declared.reasons.TableRefusal.{TableRefusal}
use Rattle.hourly_table.specs.declared.reasons.TableRefusal.TheVariants.{Reading, HourBackwards, TableShort}
use Rattle.hourly_run.specs.Entries.{entry_of}
use Rattle.hourly_run.specs.Pages.{Shelved}
use Rattle.hourly_run.specs.Said.{file_said, counter_said, line_said}

-- the length of a page, of which no more than 513 bytes need be known
abbrev pub length_text : ℕ → List ℕ
length_text n = if ltb 512 n then codes "more than 512" else decimal n

-- why a reader refuses; no other refusal than these is a table's
abbrev pub reading_words : ℕ → Refusal → List ℕ
reading_words n PageLength = codes "the length of the page is " ++ length_text n ++ codes ", not 512"
reading_words n PageSum = codes "the bytes of the page do not add up to 0"
reading_words n PageDamaged = codes "an entry that no page may have, or two of a counter that is asked for"
reading_words n NoCounter = codes "not 1 to FFF"
reading_words n other = codes "refused"

-- why there is no table, where the page to blame has n bytes
abbrev pub refusal_words : ℕ → TableRefusal → List ℕ
refusal_words n (Reading refusal) = reading_words n refusal
refusal_words n HourBackwards = codes "the hour is lower than the one before it"
refusal_words n TableShort = codes "the table has more than 1073741824 bytes"

-- and the number of the refusal [hourly-said]
abbrev pub numbered : ℕ → TableRefusal → List ℕ
numbered n refusal = refusal_words n refusal ++ codes " (" ++ decimal (table_number refusal) ++ codes ")"

-- the length of the page of the sample to blame
abbrev pub length_at : List Sampled → Option ℕ → ℕ
length_at samples None = 0
length_at samples (Some k) = get_or (map (λ s. length s.page) samples) k 0

-- the line of the sample to blame: that of the first has the number 1
abbrev pub at_line : Shelved → List (List ℕ) → Option ℕ → List ℕ → List ℕ
at_line shelf lines None why = why
at_line shelf lines (Some k) why = line_said shelf (k + 1) (entry_of (get_or lines k [])) why

-- the first counter that is none
abbrev pub counter_blamed : List ℕ → List ℕ
counter_blamed numbers = upper 3 (unwrap_or (find no_number numbers) 0)

-- a number that is none is the fault of no page
abbrev pub blames_counter : TableRefusal → Bool
blames_counter (Reading NoCounter) = true
blames_counter other = false

-- of a number that is none the counter, of any other refusal the line [hourly-said]
abbrev pub refusal_said : List ℕ → Shelved → List (List ℕ) → List ℕ → List Sampled → TableRefusal → List ℕ
refusal_said file shelf lines numbers samples refusal =
    if blames_counter refusal then counter_said (counter_blamed numbers) (numbered 0 refusal)
    else file_said file (at_line shelf lines (place_of samples numbers refusal) (numbered (length_at samples (place_of samples numbers refusal)) refusal))
