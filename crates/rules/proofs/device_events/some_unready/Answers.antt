use Rattle.std.proofs.Common.{◌<◌, sym, ◌∙◌, arith}
use Rattle.device_state.proofs.Sets.{fewer}
use Rattle.rules.proofs.Unready.{none_left, unready_found, ready_passed}
use Rattle.rules.proofs.device_events.some_unready.Goals as goal

pub returns-then-is_unready : goal.returns-then-is_unready
returns-then-is_unready c =
    let inv = c.loop-rest.invariant in
    let some : 0 < c.loop-rest.rest = omega (arith, c.loop-rest-test.true) in
    let test = rw (c.progress-progress.ensures, c.is_outstanding.ensures) at c.is_unready.ensures in
    sym (inv.0 ∙ unready_found c.loop-rest.rest some inv.1 c.args.entries.now c.args.status.outstanding (sym test ∙ c.if-is_unready.true))

pub loop-rest-smaller : goal.loop-rest-smaller
loop-rest-smaller c = fewer c.loop-rest.rest (omega (arith, c.loop-rest-test.true)) c.loop-rest.invariant.1

pub loop-rest-preserved : goal.loop-rest-preserved
loop-rest-preserved c =
    let inv = c.loop-rest.invariant in
    let some : 0 < c.loop-rest.rest = omega (arith, c.loop-rest-test.true) in
    let test = rw (c.progress-progress.ensures, c.is_outstanding.ensures) at c.is_unready.ensures in
    (inv.0 ∙ ready_passed c.loop-rest.rest some inv.1 c.args.entries.now c.args.status.outstanding (sym test ∙ c.if-is_unready.false), omega (arith, fewer c.loop-rest.rest some inv.1, inv.1))

pub returns : goal.returns
returns c = sym (c.loop-rest.invariant.0 ∙ rw c.loop-rest-test.false (none_left c.args.entries.now c.args.status.outstanding))
