use Rattle.std.proofs.Common.{◌∙◌, arith}
use Rattle.hourly_table.proofs.Standing.{before_none, before_some}
use Rattle.hourly_table.proofs.hours.page_before.Goals as goal

pub returns-in_err-checked_sub : goal.returns-in_err-checked_sub
returns-in_err-checked_sub c = rw c.from_residual.ensures (before_none _ _ (omega (arith, c.in_err-checked_sub.ensures)))

pub returns : goal.returns
returns c = c.page_of_hour.ensures ∙ before_some _ _ _ c.in_ok-checked_sub.ensures.0 c.in_ok-checked_sub.ensures.1
