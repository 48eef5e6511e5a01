use Rattle.call_scripts.proofs.CheckLaws.{some_left, none_left, none_checked, line_more, line_lost, all_checked, check_lost}
use Rattle.call_scripts.proofs.checking.check_lines.Goals as goal

pub loop-rest-init : goal.loop-rest-init
loop-rest-init g c = none_checked _ _ _ _

-- one line more
pub loop-rest-preserved : goal.loop-rest-preserved
loop-rest-preserved g c =
    let parts = c.parts_at.ensures in
    let told = c.in_ok-end_line.ensures in
    line_more c.loop-rest.invariant _ _ (some_left _ _ c.is_empty.ensures c.loop-rest-test.true) parts.before parts.behind told.bench told.check told.ok

-- what is told of it is lost
pub returns-in_err-end_line : goal.returns-in_err-end_line
returns-in_err-end_line g c =
    let parts = c.parts_at.ensures in
    let lost = c.in_err-end_line.ensures.err in
    let handed = c.from_residual.ensures in
    check_lost _ _ _ _ _ c.from_residual.result _ handed.0 handed.1 (line_lost c.loop-rest.invariant _ _ _ _ (some_left _ _ c.is_empty.ensures c.loop-rest-test.true) parts.before parts.behind lost)

pub returns : goal.returns
returns g c = all_checked c.loop-rest.invariant (none_left _ _ c.is_empty.ensures c.loop-rest-test.false)
