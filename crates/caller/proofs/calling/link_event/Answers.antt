use Rattle.std.proofs.Common.{refl}
use Rattle.rules.specs.Call.{happens}
use Rattle.rules.specs.declared.event.DeviceEvent.TheVariants.{LinkEvent}
use Rattle.device.proofs.Typing.{none-typed}
use Rattle.caller.proofs.Continuing.{continues-alone}
use Rattle.caller.proofs.calling.link_event.Goals as goal

pub returns : goal.returns
returns c = continues-alone _ (happens (LinkEvent _)) _ refl refl none-typed c.link_event.ensures
