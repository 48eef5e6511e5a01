use Rattle.std.proofs.Common.{sym, ◌∙◌}
use Rattle.pages.proofs.Walking.{leads_on}
use Rattle.pages.proofs.walk.WalkIterator.next.Goals as goal
use Rattle.pages.proofs.walk.WalkIterator.next.Goals.{in-Ok, in-Err}

pub returns-clause-goes : goal.returns-clause-goes
returns-clause-goes c =
    let l = leads_on _ _ _ (sym c.entry_at.ensures ∙ c.in_ok-entry.was) in
    elim c.match-entry.branch [
      | in-Ok w ↦ record { on = λ f. (tt, tt, rw w.self-is (rw w.in-Ok.is at l)); keeps = tt; rests = λ f. tt }
      | in-Err w ↦ record { on = λ f. (tt, tt, rw w.self-is (rw w.in-Err.is at l)); keeps = tt; rests = λ f. tt }
    ]
