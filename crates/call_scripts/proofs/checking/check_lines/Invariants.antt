use Rattle.std.proofs.Common.{length}
use Rattle.call_scripts.proofs.CheckLaws.{Stands}
use Rattle.call_scripts.proofs.checking.check_lines.Given as goal

-- the lines so far are checked
abbrev pub invariant-loop-rest : goal.invariant-loop-rest
invariant-loop-rest g l = Stands l.name l.fn.bench l.script (g.W.Write.contents l.fn.out) (g.W.Write.contents l.out) l.bench l.check l.rest

abbrev pub decreases-loop-rest : goal.decreases-loop-rest
decreases-loop-rest g l = length l.rest
