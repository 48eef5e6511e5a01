use Rattle.std.proofs.Common.{sym, ◌∙◌, ◌-◌, length, eqb-true}
use Rattle.hourly_run.specs.Lines.{lines_of}
use Rattle.hourly_run.proofs.Cutting.{at_none, at_more, at_first}
use Rattle.hourly_run.proofs.readings.line_at.Goals as goal

pub loop-preserved : goal.loop-preserved
loop-preserved c = c.loop.invariant ∙ at_more (lines_of c.loop.rest.now) c.cut_line.result.0.now (lines_of c.cut_line.result.1.now) c.args.place c.loop.counter c.cut_line.ensures.line c.loop-test.true

pub returns-then-is_empty : goal.returns-then-is_empty
returns-then-is_empty c = at_none c.loop.rest.now (c.args.place - c.loop.counter) (eqb-true (length c.loop.rest.now) 0 (sym c.is_empty.ensures ∙ c.if-is_empty.true)) ∙ sym c.loop.invariant

pub returns-then-is_empty-2 : goal.returns-then-is_empty-2
returns-then-is_empty-2 c = at_none c.loop.rest.now (c.args.place - c.loop.counter) (eqb-true (length c.loop.rest.now) 0 (sym c.is_empty-2.ensures ∙ c.if-is_empty-2.true)) ∙ sym c.loop.invariant

pub returns : goal.returns
returns c = at_first (lines_of c.loop.rest.now) c.cut_line-2.result.0.now (lines_of c.cut_line-2.result.1.now) c.args.place c.loop.counter c.cut_line-2.ensures.line c.loop-test.false ∙ sym c.loop.invariant
