-- A counter by its number, and how many commands are outstanding.
use Rattle.std.specs.Prelude.{◌≡◌, List, ℕ, Option, Result}
use Rattle.std.specs.Int.Count.{ones}
use Rattle.refusals.specs.First.{Rung, first_of, unless, refusal_in}
use Rattle.refusals.specs.Ladders.{power_ladder, counter_ladder}
use Rattle.refusals.specs.declared.reasons.Refusal.{Refusal}
use Rattle.pages.specs.Read11.{no_number}
use Rattle.counters.specs.Shown.{shown_for}
use Rattle.device.specs.Device.{contradictory_device}
use Rattle.device.specs.declared.state.Device.{Device}

-- 1; 23 number asked not 1 to FFFh
abbrev pub counter_tests : Device → ℕ → List Rung
counter_tests d number = counter_ladder (contradictory_device d) (no_number number)

-- value or absent, as page 11h would show it [counter-asked]
unfoldable pub counter_of : Device → ℕ → Result (Option ℕ) Refusal
counter_of d number = unless (first_of (counter_tests d number)) (shown_for d.settings.mask d.values number)

-- what the call promises: value, absent or the refusal, and the refusal exactly by its list [counter-asked]
pub record CounterGiven (d : Device) (number : ℕ) (r : Result (Option ℕ) Refusal) : Type 0 where
  pub answer : r ≡ counter_of d number
  pub refusal : refusal_in r ≡ first_of (counter_tests d number)

-- the ones of the outstanding mask; 1 for a state that contradicts itself, which is not read as idle [count-asked]
unfoldable pub count_of : Device → Result ℕ Refusal
count_of d = unless (first_of (power_ladder (contradictory_device d))) (ones d.status.outstanding)

-- what that call promises: the count or the refusal, and the refusal exactly by its list [count-asked]
pub record CountGiven (d : Device) (r : Result ℕ Refusal) : Type 0 where
  pub answer : r ≡ count_of d
  pub refusal : refusal_in r ≡ first_of (power_ladder (contradictory_device d))
