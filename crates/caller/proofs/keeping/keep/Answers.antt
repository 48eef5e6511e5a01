use Rattle.caller.proofs.Continuing.{begins}
use Rattle.caller.proofs.keeping.keep.Goals as goal

pub returns : goal.returns
returns c = begins _ _ c.power_on.ensures
