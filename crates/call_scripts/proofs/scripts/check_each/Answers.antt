use Rattle.std.proofs.Common.{rules}
use Rattle.call_scripts.proofs.NamedLaws.{next_looked_at, next_lost, looked_handed}
use Rattle.call_scripts.proofs.scripts.check_each.Goals as goal

-- one more is looked at
pub loop-name-preserved : goal.loop-name-preserved
loop-name-preserved g c = rw c.add.ensures (next_looked_at _ _ _ c.loop-name.invariant _ _ _ (search rules) c.in_ok-check_named.ensures.ok)

-- what is told of it is lost
pub returns-in_err-check_named : goal.returns-in_err-check_named
returns-in_err-check_named g c =
    let lost = c.in_err-check_named.ensures in
    let handed = c.from_residual.ensures in
    rw lost.kept (looked_handed _ _ _ _ _ _ c.from_residual.result _ handed.0 handed.1 (next_lost _ _ _ c.loop-name.invariant _ _ (search rules) lost.err))
