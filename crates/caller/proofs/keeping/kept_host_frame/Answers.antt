use Rattle.std.proofs.Common.{arith}
use Rattle.device.proofs.Typing.{frame-typed}
use Rattle.caller.proofs.Continuing.{continues-given}
use Rattle.caller.proofs.keeping.kept_host_frame.Goals as goal

pub returns : goal.returns
returns c = continues-given _ _ _ (frame-typed c.args.frame.now (λ i. omega (arith, c.type_inv.frame i))) c.host_frame.ensures
