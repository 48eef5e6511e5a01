-- How the code goes about the reading of pages, and no part of what a table means.
use Rattle.std.specs.Prelude.{ℕ, Bool, ◌||◌, List, is_err, Option, None, Result, Ok, Err}
use Rattle.std.specs.List.{list_any}
use Rattle.pages.specs.Read11.{read_counter}
use Rattle.pages.specs.Others11.{count_others}
use Rattle.pages.specs.declared.value.CounterValue.{CounterValue}
use Rattle.refusals.specs.declared.reasons.Refusal.{Refusal}

-- the page is refused, by itself or for one of the numbers
abbrev pub page_refused : List ℕ → List ℕ → Bool
page_refused numbers page = is_err (count_others page) || list_any (λ n. is_err (read_counter page n)) numbers

-- the value that was read; none where it is absent, or where the page is refused
abbrev pub value_read : Result (Option CounterValue) Refusal → Option CounterValue
value_read (Ok counter) = counter
value_read (Err refusal) = None
