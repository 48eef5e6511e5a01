use Rattle.std.proofs.Common.{rules, ◌∙◌, refl, ℕ, tests}
use Rattle.std.proofs.lemmas.Iterator.{YieldsList-from_slice}
use Rattle.std.proofs.lemmas.Iterator.Consumers.{YieldsList-from_enumerate}
use Rattle.std.proofs.lemmas.Iterator.Search.{any_from_yields_List}
use Rattle.device_state.proofs.Walk.{some_placed}
use Rattle.device_state.specs.Contradictory.{amount_refused, amount_refused_at, tally_refused}
use Rattle.device_state.proofs.contradicting.tally_refused.Goals as goal

pub returns : goal.returns
unfolding tally_refused
returns c =
    let a = c.args in
    let vs = a.amounts.now in
    let test = λ (x : ℕ × ℕ). amount_refused a.mask x.0 x.1 in
    any_from_yields_List test _ _ _ c.any.ensures.ran (YieldsList-from_enumerate (YieldsList-from_slice vs cc) cc) (λ x b q k. search (rules, tests))
    ∙ some_placed test (amount_refused_at a.mask vs) 0 vs c.told-amounts (λ i. refl)
