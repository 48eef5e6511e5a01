use Rattle.call_scripts.proofs.CheckLaws.{lines_lost, silent_lost}
use Rattle.call_scripts.proofs.checking.check_whole.Goals as goal

-- what is told of a line is lost
pub returns-in_err-found : goal.returns-in_err-found
returns-in_err-found g c =
    let handed = c.from_residual.ensures in
    lines_lost _ _ _ _ _ c.from_residual.result _ handed.0 handed.1 c.in_err-found.ensures

-- what is told of the script is
pub returns-in_err-end_script : goal.returns-in_err-end_script
returns-in_err-end_script g c =
    let handed = c.from_residual-in_err-end_script.ensures in
    silent_lost _ _ _ _ _ _ _ c.from_residual-in_err-end_script.result _ handed.0 handed.1 c.in_ok-found.ensures c.in_err-end_script.ensures.err
