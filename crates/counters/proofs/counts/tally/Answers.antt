use Rattle.std.proofs.Common.{◌∙◌, ap, arith, take_all}
use Rattle.counters.specs.Counts.{tallied}
use Rattle.counters.proofs.CountLaws.{tallied_more}
use Rattle.counters.proofs.counts.tally.Goals as goal

pub loop-row-preserved : goal.loop-row-preserved
loop-row-preserved c =
    let more = tallied_more c.args.values.now c.args.amounts.now c.loop-row.row (omega arith) (omega arith) in
    rw (c.raised.ensures, c.loop-row.invariant) more

pub returns : goal.returns
returns c = c.loop-row.invariant ∙ ap (tallied c.args.values.now) (take_all c.loop-row.row c.args.amounts.now (omega arith))
