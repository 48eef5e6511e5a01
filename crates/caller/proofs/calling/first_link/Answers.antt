use Rattle.std.proofs.Common.{[]}
use Rattle.caller.proofs.calling.first_link.Goals as goal

pub returns : goal.returns
returns c = (_, c.link_event.ensures [] [] _ _ [] c.begin-begun.ensures.reached)
