use Rattle.std.proofs.Common.{arith, refl}
use Rattle.rules.specs.Call.{happens}
use Rattle.rules.specs.declared.event.DeviceEvent.TheVariants.{MediaError}
use Rattle.device.proofs.Typing.{error_typed}
use Rattle.caller.proofs.Continuing.{continues_replying}
use Rattle.caller.proofs.keeping.kept_media_error.Goals as goal

pub returns : goal.returns
returns c = continues_replying _ (happens (MediaError _ _ _)) _ _ _ refl (error_typed _ (omega arith)) c.media_error.ensures
