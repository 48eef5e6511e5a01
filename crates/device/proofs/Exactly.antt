-- Each call gives each refusal of its row exactly when that test holds and none before it does, none exactly when none holds, and no other.
use Rattle.std.proofs.Common.{sym, subst}
use Rattle.refusals.specs.First.{FirstExactly}
use Rattle.refusals.specs.Ladders.{power_ladder}
use Rattle.refusals.proofs.FirstLaws as firsts
use Rattle.device_state.specs.Contradictory.{settings_out}
use Rattle.device_state.specs.declared.shapes.Settings.{Settings}
use Rattle.rules.specs.Tests.{tests}
use Rattle.rules.proofs.TestLaws.{test_laws}
use Rattle.device.specs.Device.{power_on}
use Rattle.device.specs.Lent.{Lent}
use Rattle.device.specs.FactsOf.{facts_of}
use Rattle.device.specs.Step.{step}
use Rattle.device.specs.declared.state.Device.{Device}
use Rattle.device.proofs.Turns.{step_refusal}

-- power-on: 1
pub first_exactly_power : (s : Settings) → FirstExactly (power_ladder (settings_out s)) (power_on s).refusal
unfolding power_on
first_exactly_power s = firsts.first_exactly (power_ladder (settings_out s)) tt

-- every call, by its row of the table
pub first_exactly : (d : Device) (l : Lent) → FirstExactly (tests (facts_of d l) l.call) (step d l).refusal
first_exactly d l = subst (FirstExactly _) (sym (step_refusal d l)) (firsts.first_exactly (tests (facts_of d l) l.call) (test_laws (facts_of d l) l.call).once)
