use Rattle.std.proofs.Common.{refl}
use Rattle.rules.specs.Call.{happens}
use Rattle.rules.specs.declared.event.DeviceEvent.TheVariants.{LinkTally}
use Rattle.device.proofs.Typing.{none_typed}
use Rattle.caller.proofs.Continuing.{continues_alone}
use Rattle.caller.proofs.calling.link_tally.Goals as goal

pub returns : goal.returns
returns c = continues_alone _ (happens (LinkTally _)) _ refl refl none_typed c.link_tally.ensures
