use Rattle.std.proofs.Common.{arith}
use Rattle.std.proofs.KnownBytes.{Appends-nil, Appends-kept}
use Rattle.streams.proofs.Pieces.{written_front}
use Rattle.streams.proofs.writing.put.Goals as goal

pub returns-in-Ok-eq0-clause-err : goal.returns-in-Ok-eq0-clause-err
returns-in-Ok-eq0-clause-err g c =
    written_front _ _ _ _ _ c.loop.invariant (grind arith) (rw (c.in-Ok-eq0.is, c.in-Ok-eq0.field-0-test) at c.write.ensures.bytes)

pub returns-in-Err-2-clause-err : goal.returns-in-Err-2-clause-err
returns-in-Err-2-clause-err g c = written_front _ _ _ _ _ c.loop.invariant (grind arith) (Appends-kept _ _ _ _ (Appends-nil _) c.in-Err.ensures.bytes)

pub returns-else-is_empty-2-clause-err : goal.returns-else-is_empty-2-clause-err
returns-else-is_empty-2-clause-err g c = written_front _ _ _ _ _ c.loop.invariant (grind arith) (Appends-nil _)
