use Rattle.call_scripts.proofs.NamedLaws.{written_handed, last_handed}
use Rattle.call_scripts.proofs.scripts.check_all.Goals as goal

-- what is told of a script is lost
pub returns-in_err-found : goal.returns-in_err-found
returns-in_err-found g c =
    let handed = c.from_residual.ensures in
    written_handed _ _ _ _ _ _ c.from_residual.result _ handed.0 handed.1 c.in_err-found.ensures

-- the last line is
pub returns-in_err-end : goal.returns-in_err-end
returns-in_err-end g c =
    let handed = c.from_residual-in_err-end.ensures in
    last_handed _ _ _ _ _ _ _ _ c.from_residual-in_err-end.result _ handed.0 handed.1 c.in_ok-found.ensures c.in_err-end.ensures.err
