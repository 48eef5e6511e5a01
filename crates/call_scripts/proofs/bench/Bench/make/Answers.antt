use Rattle.std.proofs.Common.{sym}
use Rattle.call_scripts.specs.Calls.{call_of}
use Rattle.call_scripts.proofs.CallLaws.{told_of}
use Rattle.call_scripts.proofs.bench.Bench.make.Goals as goal

pub returns-clause-told : goal.returns-clause-told
returns-clause-told c =
    let bench = c.self.inside in
    told_of c.args.self.now bench.device bench.medium.now bench.loan (call_of c.args.call) c.args.reply.now _ c.make_with-outcome.result _ c.loan.result c.min-front.result (sym c.self.view_is) c.loan.ensures c.min-front.ensures c.make_with-outcome.ensures.given
