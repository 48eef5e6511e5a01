use Rattle.std.proofs.Common.{rules, ◌∙◌, refl, ℕ, tests}
use Rattle.std.proofs.lemmas.Iterator.{YieldsList-from_slice}
use Rattle.std.proofs.lemmas.Iterator.Consumers.{YieldsList-from_enumerate}
use Rattle.std.proofs.lemmas.Iterator.Search.{any_from_yields_List}
use Rattle.device_state.proofs.Walk.{some_placed}
use Rattle.device_state.specs.Contradictory.{row_bad, row_bad_at, rows_bad}
use Rattle.device_state.proofs.contradicting.rows_bad.Goals as goal

pub returns : goal.returns
unfolding rows_bad
returns c =
    let a = c.args in
    let vs = a.values.now in
    let test = λ (x : ℕ × ℕ). row_bad a.mask x.0 x.1 in
    any_from_yields_List test _ _ _ c.any.ensures.ran (YieldsList-from_enumerate (YieldsList-from_slice vs cc) cc) (λ x b q k. search (rules, tests))
    ∙ some_placed test (row_bad_at a.mask vs) 0 vs c.told-values (λ i. refl)
