use Rattle.std.proofs.Common.{rules, ◌∙◌, refl, ℕ, tests}
use Rattle.std.proofs.lemmas.Iterator.{YieldsList-from_slice}
use Rattle.std.proofs.lemmas.Iterator.Consumers.{YieldsList-from_enumerate}
use Rattle.std.proofs.lemmas.Iterator.Search.{any_from_yields_List}
use Rattle.bits.specs.Bit.{bit_in}
use Rattle.device_state.specs.declared.shapes.Entry.{Entry}
use Rattle.device_state.specs.State.{zero_entry}
use Rattle.device_state.specs.UnderWay.{open_for}
use Rattle.device_state.proofs.Walk.{some_placed}
use Rattle.device_state.specs.Contradictory.{entry_bad, tag_bad, table_bad}
use Rattle.device_state.proofs.contradicting.table_bad.Goals as goal

pub returns : goal.returns
unfolding table_bad
returns c =
    let a = c.args in
    let es = a.entries.now in
    let test = λ (x : ℕ × Entry). entry_bad a.settings x.1 x.0 (bit_in 32 a.status.outstanding x.0) (open_for a.status.phase x.0) in
    any_from_yields_List test _ _ _ c.any.ensures.ran (YieldsList-from_enumerate (YieldsList-from_slice es cc) cc) (λ x b q k. search (rules, tests))
    ∙ some_placed test (tag_bad a.settings es a.status.outstanding a.status.phase) zero_entry es c.told-entries (λ i. refl)
