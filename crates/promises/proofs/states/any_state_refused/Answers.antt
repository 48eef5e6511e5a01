use Rattle.promises.proofs.TurnedDown.{power_sound}
use Rattle.promises.proofs.states.any_state_refused.Goals as goal

pub returns-clause-power : goal.returns-clause-power
returns-clause-power c = power_sound
