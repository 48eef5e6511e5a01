-- The first test that holds.
use Rattle.std.proofs.Common.{sym, ◌∙◌}
use Rattle.hourly_table.proofs.Asking.{first_20, first_23, first_21, first_22, first_70, first_none}
use Rattle.hourly_table.proofs.checking.check.Goals as goal

pub returns-then-has_wrong_length : goal.returns-then-has_wrong_length
returns-then-has_wrong_length c = first_20 c.args.samples.now c.args.numbers.now (sym c.has_wrong_length.ensures ∙ c.if-has_wrong_length.true)

pub returns-then-has_no_counter : goal.returns-then-has_no_counter
returns-then-has_no_counter c = first_23 c.args.samples.now c.args.numbers.now (sym c.has_wrong_length.ensures ∙ c.if-has_wrong_length.false) (sym c.has_no_counter.ensures ∙ c.if-has_no_counter.true)

pub returns-then-has_wrong_sum : goal.returns-then-has_wrong_sum
returns-then-has_wrong_sum c = first_21 c.args.samples.now c.args.numbers.now (sym c.has_wrong_length.ensures ∙ c.if-has_wrong_length.false) (sym c.has_no_counter.ensures ∙ c.if-has_no_counter.false) (sym c.has_wrong_sum.ensures ∙ c.if-has_wrong_sum.true)

pub returns-then-has_refused_page : goal.returns-then-has_refused_page
returns-then-has_refused_page c = first_22 c.args.samples.now c.args.numbers.now (sym c.has_wrong_length.ensures ∙ c.if-has_wrong_length.false) (sym c.has_no_counter.ensures ∙ c.if-has_no_counter.false) (sym c.has_wrong_sum.ensures ∙ c.if-has_wrong_sum.false) (sym c.has_refused_page.ensures ∙ c.if-has_refused_page.true)

pub returns-then-has_fallen_hour : goal.returns-then-has_fallen_hour
returns-then-has_fallen_hour c = first_70 c.args.samples.now c.args.numbers.now (sym c.has_wrong_length.ensures ∙ c.if-has_wrong_length.false) (sym c.has_no_counter.ensures ∙ c.if-has_no_counter.false) (sym c.has_wrong_sum.ensures ∙ c.if-has_wrong_sum.false) (sym c.has_refused_page.ensures ∙ c.if-has_refused_page.false) (sym c.has_fallen_hour.ensures ∙ c.if-has_fallen_hour.true)

pub returns : goal.returns
returns c = first_none c.args.samples.now c.args.numbers.now (sym c.has_wrong_length.ensures ∙ c.if-has_wrong_length.false) (sym c.has_no_counter.ensures ∙ c.if-has_no_counter.false) (sym c.has_wrong_sum.ensures ∙ c.if-has_wrong_sum.false) (sym c.has_refused_page.ensures ∙ c.if-has_refused_page.false) (sym c.has_fallen_hour.ensures ∙ c.if-has_fallen_hour.false)
