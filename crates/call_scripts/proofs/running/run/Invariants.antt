use Rattle.call_scripts.proofs.Came.{Came}
use Rattle.call_scripts.proofs.running.run.Given as goal

-- the bytes so far are played
abbrev pub invariant-loop : goal.invariant-loop
invariant-loop g l = Came l.fn.bench (g.R.Read.remaining l.fn.reader) (g.W.Write.contents l.fn.out) (g.R.Read.remaining l.reader) (g.W.Write.contents l.out) l.bench l.line.items
