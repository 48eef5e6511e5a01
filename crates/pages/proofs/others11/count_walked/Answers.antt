use Rattle.std.proofs.Common.{ap, ◌∙◌, rules, Some}
use Rattle.pages.proofs.Counting.{counts_fault}
use Rattle.pages.proofs.others11.count_walked.Goals as goal

pub returns-in_err-entry : goal.returns-in_err-entry
returns-in_err-entry c =
    let e = counts_fault c.loop-entry.invariant c.next.ensures.steps _ (c.in-Some.is ∙ ap Some c.in_err-entry.was) in
    rw e (search rules)
