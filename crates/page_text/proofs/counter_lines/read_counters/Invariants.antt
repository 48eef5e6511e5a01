use Rattle.page_text.proofs.Reading.{Reads}
use Rattle.page_text.proofs.counter_lines.read_counters.Given as goal

abbrev pub invariant-loop-number : goal.invariant-loop-number
invariant-loop-number l = Reads l.page l.number-items l.number-index
