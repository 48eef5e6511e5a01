use Rattle.std.proofs.Common.{◌≡◌, ◌<◌, sym, ap, ◌∙◌, arith, length-set, set}
use Rattle.device_state.specs.State.{zero_entry}
use Rattle.device_state.specs.Table.{table_without}
use Rattle.device_state.specs.declared.shapes.Entry.{Entry}
use Rattle.device_state.proofs.Clearing.{cleared_none, cleared_one}
use Rattle.device_state.proofs.Sets.{lowest, others, fewer}
use Rattle.device_state.proofs.table.clear_entries.Goals as goal

pub loop-rest-smaller : goal.loop-rest-smaller
loop-rest-smaller c = fewer c.loop-rest.rest (omega (arith, c.loop-rest-test.true)) c.loop-rest.invariant.1

pub loop-rest-preserved : goal.loop-rest-preserved
loop-rest-preserved c =
    let inv = c.loop-rest.invariant in
    let es = c.loop-rest.entries in
    let n = c.loop-rest.rest in
    let some : 0 < n = omega (arith, c.loop-rest-test.true) in
    let idle : zero_entry ≡ c.default.result = grind arith in
    let one = cleared_one es n some inv.1 inv.0 ∙ ap (λ (e : Entry). table_without (set es (lowest n some inv.1) e) (others n some inv.1)) idle in
    (length-set es (lowest n some inv.1) c.default.result ∙ inv.0, omega (arith, fewer n some inv.1, inv.1), inv.2 ∙ one)

pub returns : goal.returns
returns c = let inv = c.loop-rest.invariant in sym (inv.2 ∙ rw c.loop-rest-test.false (cleared_none c.loop-rest.entries inv.0))
