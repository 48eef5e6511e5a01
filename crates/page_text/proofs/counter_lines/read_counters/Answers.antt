use Rattle.std.proofs.Common.{sym, ap, ◌∙◌, None, Err, rules}
use Rattle.std.proofs.lemmas.Result.{err_from_is_err_and}
use Rattle.counters.specs.Rows.{ids}
use Rattle.page_text.proofs.Reading.{reads_none, reads_one, reads_refused, reads_all}
use Rattle.page_text.proofs.counter_lines.read_counters.Goals as goal

pub loop-number-init : goal.loop-number-init
unfolding ids
loop-number-init c =
    let h = c.map-counters.ensures.items in
    reads_none _ _ h.long (λ i k. let t = h.at i 0 (0, None) k in search rules)

pub returns-in_err-counter : goal.returns-in_err-counter
returns-in_err-counter c =
    let p = err_from_is_err_and c.from_residual.result c.from_residual.ensures.1 in
    p.1 ∙ ap Err p.2 ∙ sym (reads_refused c.loop-number.invariant c.loop-number-test.true _ c.read_counter.ensures.answer _ c.in_err-counter.was)

pub loop-number-preserved : goal.loop-number-preserved
loop-number-preserved c = reads_one c.loop-number.invariant c.loop-number-test.true _ c.read_counter.ensures.answer _ c.in_ok-counter.was

pub returns : goal.returns
returns c = sym (reads_all c.loop-number.invariant c.loop-number-test.false)
