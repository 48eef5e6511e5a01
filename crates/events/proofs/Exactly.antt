-- A settings record is refused exactly when the rules say.
use Rattle.std.proofs.Common.{Bool, true, false, not, ◌||◌, Err}
use Rattle.bits.specs.Pick.{pick}
use Rattle.refusals.specs.First.{FirstExactly, first_of}
use Rattle.refusals.specs.Ladders.{power_ladder}
use Rattle.refusals.specs.declared.reasons.Refusal.TheVariants.{Contradiction}
use Rattle.refusals.proofs.FirstLaws.{first_exactly}
use Rattle.device_state.specs.Contradictory.{settings_out}
use Rattle.device_state.specs.declared.shapes.Settings.{Settings}
use Rattle.device.specs.Device.{power_on}
use Rattle.device.specs.Sealing.{powered_of}
use Rattle.device.proofs.Exactly.{first_exactly_power}
use Rattle.events.specs.Settings.{in_limit}
use Rattle.events.specs.Stops.{start_out}
use Rattle.events.specs.Start.{start_of}

-- out of the limit it is 1, and in it what power-on gives
by_limit : (b : Bool) (s : Settings) → FirstExactly (power_ladder (not b || settings_out s)) (pick b (power_on s) (powered_of (Err Contradiction))).refusal
unfolding powered_of first_of
by_limit true s = first_exactly_power s
by_limit false s = first_exactly (power_ladder true) tt

-- settings: 1
pub first_exactly_start : (s : Settings) → FirstExactly (power_ladder (start_out s)) (start_of s).refusal
unfolding start_of
first_exactly_start s = by_limit (in_limit s) s
