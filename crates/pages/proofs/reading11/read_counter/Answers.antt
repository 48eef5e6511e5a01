use Rattle.std.proofs.Common.{rules, Err, arith}
use Rattle.std.proofs.lemmas.Grind.{common_steps}
use Rattle.refusals.specs.declared.reasons.Refusal.TheVariants.{NoCounter, PageSum}
use Rattle.refusals.specs.First.{first_of}
use Rattle.pages.specs.Read11.{read_counter}
use Rattle.pages.proofs.Exactly11.{counter_told}
use Rattle.pages.proofs.reading11.read_counter.Goals as goal

pub returns-in_err-page : goal.returns-in_err-page
unfolding read_counter first_of
returns-in_err-page c = counter_told c.args.page.now c.args.number c.from_residual.result (grind (arith, common_steps))

pub returns-then-not-is_counter_number : goal.returns-then-not-is_counter_number
unfolding read_counter first_of
returns-then-not-is_counter_number c = counter_told c.args.page.now c.args.number (Err NoCounter) (grind (arith, common_steps))

pub returns-then-byte_sum-ne0 : goal.returns-then-byte_sum-ne0
unfolding read_counter first_of
returns-then-byte_sum-ne0 c = counter_told c.args.page.now c.args.number (Err PageSum) (grind (arith, common_steps))

pub returns : goal.returns
unfolding read_counter first_of
returns c = counter_told c.args.page.now c.args.number c.find_counter.result (search rules)
