use Rattle.std.proofs.Common.{sym, ◌∙◌, map, length, eqb-true}
use Rattle.hourly_table.specs.Samples.{sampled}
use Rattle.hourly_table.proofs.Spans.{no_numbers, first_to_last}
use Rattle.hourly_table.proofs.sizing.hours_with_rows.Goals as goal

pub returns-then-is_empty : goal.returns-then-is_empty
returns-then-is_empty c = no_numbers (map sampled c.args.samples.now) c.args.numbers.now (eqb-true (length c.args.numbers.now) 0 (sym c.is_empty.ensures ∙ c.if-is_empty.true))

pub returns : goal.returns
returns c = first_to_last c.args.samples.now c.args.numbers.now c.in_ok-first.field-0.now c.in_ok-last.field-0.now c.in_ok-first.ensures.value c.in_ok-last.ensures.value
