use Rattle.std.proofs.Common.{sym, arith}
use Rattle.hourly_run.proofs.Cutting.{same_take}
use Rattle.hourly_run.proofs.saying.front_of.Goals as goal

pub returns : goal.returns
returns c = sym (same_take c.args.name.now 255 c.min.result (omega (arith, c.min.ensures)))
