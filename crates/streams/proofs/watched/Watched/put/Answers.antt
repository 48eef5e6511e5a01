use Rattle.std.proofs.Common.{arith}
use Rattle.std.proofs.KnownBytes.{Appends-nil, Appends-kept}
use Rattle.streams.proofs.OnErrs.{on_err}
use Rattle.streams.proofs.Pieces.{written_front}
use Rattle.streams.proofs.watched.Watched.put.Goals as goal

pub returns-in_err-n-clause-err : goal.returns-in_err-n-clause-err
returns-in_err-n-clause-err g c = on_err _ (written_front _ _ _ _ _ c.loop-rest.invariant.0 (grind arith) (Appends-kept _ _ _ _ (Appends-nil _) c.in_err-n.ensures.bytes))

pub loop-rest-smaller : goal.loop-rest-smaller
loop-rest-smaller g c = omega (arith, c.in_ok-n.ensures.counted, c.in_ok-n.ensures.left)
