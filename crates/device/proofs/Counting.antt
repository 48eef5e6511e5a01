-- What `counter` and `outstanding_count` refuse, by their lists.
use Rattle.std.proofs.Common.{Option, Result, sym, subst, ℕ}
use Rattle.refusals.specs.First.{FirstExactly, refusal_in}
use Rattle.refusals.specs.Ladders.{power_ladder}
use Rattle.refusals.specs.declared.reasons.Refusal.{Refusal}
use Rattle.refusals.proofs.FirstLaws as firsts
use Rattle.device.specs.Counter.{counter_tests, CounterGiven, CountGiven}
use Rattle.device.specs.Device.{contradictory_device}
use Rattle.device.specs.declared.state.Device.{Device}

-- counter: 1, 23, each exactly then
pub first_exactly_counter : (d : Device) (number : ℕ) (r : Result (Option ℕ) Refusal) → CounterGiven d number r → FirstExactly (counter_tests d number) (refusal_in r)
first_exactly_counter d number r g = subst (FirstExactly (counter_tests d number)) (sym g.refusal) (firsts.first_exactly (counter_tests d number) tt)

-- 1, exactly when the state contradicts itself
pub first_exactly_count : (d : Device) (r : Result ℕ Refusal) → CountGiven d r → FirstExactly (power_ladder (contradictory_device d)) (refusal_in r)
first_exactly_count d r g = subst (FirstExactly (power_ladder (contradictory_device d))) (sym g.refusal) (firsts.first_exactly (power_ladder (contradictory_device d)) tt)
