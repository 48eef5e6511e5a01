use Rattle.device.proofs.Typing.{none_typed}
use Rattle.caller.proofs.Continuing.{continues_given}
use Rattle.caller.proofs.calling.send.Goals as goal

pub returns : goal.returns
returns c = continues_given _ _ _ none_typed c.send.ensures
