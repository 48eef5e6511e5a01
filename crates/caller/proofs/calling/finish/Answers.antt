use Rattle.std.proofs.Common.{arith, refl}
use Rattle.rules.specs.Call.{happens}
use Rattle.rules.specs.declared.event.DeviceEvent.TheVariants.{FinishTags}
use Rattle.device.proofs.Typing.{set_typed}
use Rattle.caller.proofs.Continuing.{continues_replying}
use Rattle.caller.proofs.calling.finish.Goals as goal

pub returns : goal.returns
returns c = continues_replying _ (happens (FinishTags _)) _ _ _ refl (set_typed _ (omega arith)) c.finish.ensures
