use Rattle.std.proofs.Common.{refl}
use Rattle.rules.specs.Call.{happens}
use Rattle.rules.specs.declared.event.DeviceEvent.TheVariants.{Comreset}
use Rattle.device.proofs.Typing.{none_typed}
use Rattle.caller.proofs.Continuing.{continues_replying}
use Rattle.caller.proofs.calling.comreset.Goals as goal

pub returns : goal.returns
returns c = continues_replying _ (happens Comreset) _ _ _ refl none_typed c.comreset.ensures
