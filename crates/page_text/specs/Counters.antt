-- What is printed of page 11h.
use Rattle.std.specs.Prelude.{ℕ, List, [], ◌∷◌, ◌++◌, if◌then◌else◌, decimal, codes, flat_map, Option, Some, None, Result, Ok, Err}
use Rattle.refusals.specs.declared.reasons.Refusal.{Refusal}
use Rattle.counters.specs.Rows.{ids}
use Rattle.pages.specs.Read11.{read_counter}
use Rattle.pages.specs.Others11.{count_others}
use Rattle.pages.specs.Top.{at_top}
use Rattle.pages.specs.declared.value.CounterValue.{CounterValue}
use Rattle.page_text.specs.Words.{upper, refusal_text}
use Rattle.page_text.specs.Both.{both}

-- a counter's number, and what a page says of it
abbrev pub Counter : Type 0
Counter = ℕ × Option CounterValue

-- a counter in front of counters, or the first refusal
abbrev pub in_front : ℕ → Result (Option CounterValue) Refusal → Result (List Counter) Refusal → Result (List Counter) Refusal
in_front number (Ok counter) (Ok more) = Ok ((number, counter) ∷ more)
in_front number (Ok counter) (Err refusal) = Err refusal
in_front number (Err refusal) more = Err refusal

-- what the page says of each of these numbers, or the refusal of the first that is refused
unfoldable pub counters_in : List ℕ → List ℕ → Result (List Counter) Refusal
counters_in page [] = Ok []
counters_in page (number ∷ numbers) = in_front number (read_counter page number) (counters_in page numbers)

-- a value in decimal, with ` top` behind one that is the largest of its width; or that the page does not keep the counter
abbrev pub shown_text : Option CounterValue → List ℕ
shown_text None = codes "absent"
shown_text (Some counter) = decimal counter.value ++ (if at_top counter then codes " top" else [])

-- a counter's line: three hex digits, `h `, and what the page says of it
abbrev pub line_text : Counter → List ℕ
line_text counter = upper 3 counter.0 ++ codes "h " ++ shown_text counter.1 ++ codes "\n"

-- the lines of several counters, in their order
abbrev pub lines_text : List Counter → List ℕ
lines_text counters = flat_map line_text counters

-- how many entries of the page are none of these counters [others-11h]
abbrev pub others_text : ℕ → List ℕ
others_text others = codes "others " ++ decimal others ++ codes "\n"

-- the lines and the count of what they do not tell of, or the refusal alone
abbrev pub told_text : Result (List Counter × ℕ) Refusal → List ℕ
told_text (Ok told) = lines_text told.0 ++ others_text told.1
told_text (Err refusal) = refusal_text refusal

-- what is told of page 11h, or why it is refused
abbrev pub counters_told : List ℕ → Result (List Counter × ℕ) Refusal
counters_told page = both (counters_in page ids) (count_others page)

-- page 11h: the sixteen counters and the count of other entries, or the refusal alone [text-11h]
abbrev pub counters_text : List ℕ → List ℕ
counters_text page = told_text (counters_told page)
