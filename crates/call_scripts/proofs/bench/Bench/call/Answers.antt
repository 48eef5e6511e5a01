use Rattle.call_scripts.specs.Calls.{call_of}
use Rattle.call_scripts.proofs.AnswerLaws.{buffer_is, line_is}
use Rattle.call_scripts.proofs.bench.Bench.call.Goals as goal

pub returns-clause-bench : goal.returns-clause-bench
returns-clause-bench g c =
    let buffer = buffer_is c.args.self.now c.loan.result c.min-size.result c.loan.ensures c.min-size.ensures in
    rw buffer at c.make-outcome.ensures.bench

pub returns-clause-text : goal.returns-clause-text
returns-clause-text g c =
    let buffer = buffer_is c.args.self.now c.loan.result c.min-size.result c.loan.ensures c.min-size.ensures in
    let line = line_is c.args.self.now (call_of c.args.call) _ _ c.make-outcome.result buffer c.make-outcome.ensures.told in
    rw line at c.write_outcome.ensures
