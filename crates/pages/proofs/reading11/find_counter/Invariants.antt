use Rattle.pages.proofs.Walking.{Ahead}
use Rattle.pages.proofs.reading11.find_counter.Given as goal

abbrev pub invariant-loop-entry : goal.invariant-loop-entry
invariant-loop-entry l = Ahead l.page l.number l.entry-iterator l.found
