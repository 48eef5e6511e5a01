use Rattle.std.proofs.Common.{arith}
use Rattle.device.proofs.Typing.{frame_typed}
use Rattle.caller.proofs.Continuing.{continues_given}
use Rattle.caller.proofs.calling.host_frame.Goals as goal

pub returns : goal.returns
returns c = continues_given _ _ _ (frame_typed c.args.frame.now (λ i. omega (arith, c.type_inv.frame i))) c.host_frame.ensures
