use Rattle.std.proofs.Common.{◌≡◌, ◌-◌, ◌^◌}
use Rattle.streams.proofs.Pieces.{Written}
use Rattle.streams.proofs.watched.Watched.put.Given as goal

abbrev pub invariant-loop-rest : goal.invariant-loop-rest
invariant-loop-rest g l = Written (g.W.Write.contents l.initial.self.inner) (g.W.Write.contents l.self.inner) l.text l.rest × (l.self.failed ≡ l.initial.self.failed)

abbrev pub decreases-loop-rest : goal.decreases-loop-rest
decreases-loop-rest g l = 2 ^ 64 - l.self.writes
