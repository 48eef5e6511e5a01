use Rattle.std.proofs.Common.{sym, ◌∙◌, arith}
use Rattle.call_scripts.proofs.NameLaws.{named_here, named_on, named_nowhere}
use Rattle.call_scripts.proofs.names.named.Goals as goal

pub returns-then-eq : goal.returns-then-eq
returns-then-eq g c = named_here (λ row. (row.0.now, row.1)) c.args.table.now c.loop-name.name-index c.args.word.now c.loop-name.invariant c.loop-name-item.result (omega arith) c.loop-name-item.is (sym c.eq.ensures ∙ c.if-eq.true)

pub loop-name-preserved : goal.loop-name-preserved
loop-name-preserved g c = named_on (λ row. (row.0.now, row.1)) c.args.table.now c.loop-name.name-index c.args.word.now c.loop-name.invariant c.loop-name-item.result (omega arith) c.loop-name-item.is (sym c.eq.ensures ∙ c.if-eq.false)

pub returns : goal.returns
returns g c = named_nowhere (λ row. (row.0.now, row.1)) c.args.table.now c.loop-name.name-index c.args.word.now c.loop-name.invariant (omega arith)
