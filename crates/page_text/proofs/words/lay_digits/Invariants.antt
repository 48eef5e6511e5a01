use Rattle.page_text.proofs.Digits.{Laying}
use Rattle.page_text.proofs.words.lay_digits.Given as goal

abbrev pub invariant-loop-rest : goal.invariant-loop-rest
invariant-loop-rest l = Laying l.n l.at l.rest l.places l.fn.places

abbrev pub decreases-loop-rest : goal.decreases-loop-rest
decreases-loop-rest l = l.rest
