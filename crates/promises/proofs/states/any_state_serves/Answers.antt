use Rattle.promises.proofs.TurnedDown.{others_serve}
use Rattle.promises.proofs.states.any_state_serves.Goals as goal

pub returns : goal.returns
returns c = others_serve
