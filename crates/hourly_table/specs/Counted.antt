-- What a change in the table says.
use Rattle.std.specs.Prelude.{◌≡◌, ℕ, ◌+◌, ◌<◌, false, List, length, get_or, Some, Ok}
use Rattle.bits.specs.Little.{Bytes}
use Rattle.pages.specs.Read11.{read_counter}
use Rattle.pages.specs.Top.{at_top}
use Rattle.pages.specs.declared.value.CounterValue.{CounterValue}
use Rattle.hourly_table.specs.Samples.{Sampled, page_of_hour, page_before}

-- a page stands for the hour, and one for the hour before; both have the counter, below the top of its own width in each; and the value is so much more [table-change]
pub record Counted (samples : List Sampled) (hour number change : ℕ) : Type 0 where
  pub page_before_it : List ℕ
  pub page_of_it : List ℕ
  pub old : CounterValue
  pub new : CounterValue
  pub stood : page_before samples hour ≡ Some page_before_it
  pub stands : page_of_hour samples hour ≡ Some page_of_it
  pub old_read : read_counter page_before_it number ≡ Ok (Some old)
  pub new_read : read_counter page_of_it number ≡ Ok (Some new)
  pub old_below : at_top old ≡ false
  pub new_below : at_top new ≡ false
  pub more : new.value ≡ old.value + change

-- the pages are bytes, as what stands in slices always is
abbrev pub AllBytes : List Sampled → Type 0
AllBytes samples = (k : ℕ) (d : Sampled) → k < length samples → Bytes (get_or samples k d).page
