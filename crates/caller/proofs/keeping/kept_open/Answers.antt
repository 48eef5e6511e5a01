use Rattle.std.proofs.Common.{refl}
use Rattle.rules.specs.Call.{happens}
use Rattle.rules.specs.declared.event.DeviceEvent.TheVariants.{OpenPhase}
use Rattle.device.proofs.Typing.{none_typed}
use Rattle.caller.proofs.Continuing.{continues_replying}
use Rattle.caller.proofs.keeping.kept_open.Goals as goal

pub returns : goal.returns
returns c = continues_replying _ (happens (OpenPhase _)) _ _ _ refl none_typed c.open.ensures
