-- How much a counter has changed from one hour to the next.
use Rattle.std.specs.Prelude.{ℕ, ◌-◌, ◌||◌, if◌then◌else◌, ltb, List, Option, Some, None, Result, Ok, Err}
use Rattle.refusals.specs.declared.reasons.Refusal.{Refusal}
use Rattle.pages.specs.Read11.{read_counter}
use Rattle.pages.specs.Top.{at_top}
use Rattle.pages.specs.declared.value.CounterValue.{CounterValue}
use Rattle.hourly_table.specs.Samples.{Sampled, page_of_hour, page_before}

-- new less old; nothing where it has fallen, or where either is the largest of its own width [table-change]
abbrev pub change : CounterValue → CounterValue → Option ℕ
change old new = if ltb new.value old.value || at_top old || at_top new then None else Some (new.value - old.value)

-- what two pages that were read have between them; nothing where either lacks the counter [table-change]
abbrev pub change_read : Result (Option CounterValue) Refusal → Result (Option CounterValue) Refusal → Option ℕ
change_read (Ok (Some old)) (Ok (Some new)) = change old new
change_read (Ok (Some old)) (Ok None) = None
change_read (Ok (Some old)) (Err refusal) = None
change_read (Ok None) new = None
change_read (Err refusal) new = None

-- the change of a counter between two pages; nothing where either is missing [table-change]
abbrev pub between : ℕ → Option (List ℕ) → Option (List ℕ) → Option ℕ
between number (Some old) (Some new) = change_read (read_counter old number) (read_counter new number)
between number (Some old) None = None
between number None new = None

-- the change of a counter in an hour: from the page of the hour before it to its own [table-change]
unfoldable pub change_in : List Sampled → ℕ → ℕ → Option ℕ
change_in samples hour number = between number (page_before samples hour) (page_of_hour samples hour)
