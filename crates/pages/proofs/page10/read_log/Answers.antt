use Rattle.std.proofs.Common.{Ok, Err, arith}
use Rattle.std.proofs.lemmas.Grind.{common_steps}
use Rattle.refusals.specs.declared.reasons.Refusal.TheVariants.{PageSum}
use Rattle.refusals.specs.First.{first_of}
use Rattle.pages.specs.Page10.{read_log}
use Rattle.pages.proofs.Exactly10.{log_told_lem}
use Rattle.pages.proofs.page10.read_log.Goals as goal

pub returns-in_err-page : goal.returns-in_err-page
unfolding read_log first_of
returns-in_err-page c = log_told_lem c.args.page.now c.from_residual.result (grind (arith, common_steps))

pub returns-then-byte_sum-ne0 : goal.returns-then-byte_sum-ne0
unfolding read_log first_of
returns-then-byte_sum-ne0 c = log_told_lem c.args.page.now (Err PageSum) (grind (arith, common_steps))

pub returns : goal.returns
unfolding read_log first_of
returns c = log_told_lem c.args.page.now (Ok c.read_fields.result) (grind (arith, common_steps))
