use Rattle.std.proofs.Common.{ap, sym, ◌∙◌, rules, Some}
use Rattle.pages.proofs.Walking.{fault_here, hit_twice}
use Rattle.pages.proofs.reading11.find_counter.Goals as goal

pub returns-in_err-entry : goal.returns-in_err-entry
returns-in_err-entry c =
    let e = fault_here c.loop-entry.invariant c.next.ensures.steps _ (c.in-Some.is ∙ ap Some c.in_err-entry.was) in
    rw e (search rules)

pub returns-then-is_some : goal.returns-then-is_some
returns-then-is_some c = sym (hit_twice c.loop-entry.invariant c.next.ensures.steps _ (c.in-Some.is ∙ ap Some c.in_ok-entry.was) (sym c.is_asked.ensures ∙ c.if-is_asked.true) (sym c.is_some.ensures ∙ c.if-is_some.true))
