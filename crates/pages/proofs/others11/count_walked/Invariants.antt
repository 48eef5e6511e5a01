use Rattle.pages.proofs.Counting.{Counts}
use Rattle.pages.proofs.others11.count_walked.Given as goal

abbrev pub invariant-loop-entry : goal.invariant-loop-entry
invariant-loop-entry l = Counts l.page l.entry-iterator l.others
