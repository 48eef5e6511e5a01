use Rattle.std.proofs.Common.{drop, length}
use Rattle.streams.specs.Gathered.{held_back, gathering}
use Rattle.hex.specs.Hex.{encode_lower}
use Rattle.events.specs.Lines.{trace_of}
use Rattle.events.proofs.Pushing.{PushedOf}
use Rattle.events.proofs.telling.push_trace.Given as goal

abbrev pub invariant-loop-rest : goal.invariant-loop-rest
invariant-loop-rest g l = PushedOf (gathering (g.W.Write.contents l.fn.out.inner) (held_back l.fn.lines) l.fn.out.failed) (gathering (g.W.Write.contents l.out.inner) (held_back l.lines) l.out.failed) (trace_of l.reply) (encode_lower l.rest)

abbrev pub decreases-loop-rest : goal.decreases-loop-rest
decreases-loop-rest g l = length l.rest

abbrev pub invariant-loop-byte : goal.invariant-loop-byte
invariant-loop-byte g l = PushedOf (gathering (g.W.Write.contents l.fn.out.inner) (held_back l.fn.lines) l.fn.out.failed) (gathering (g.W.Write.contents l.out.inner) (held_back l.lines) l.out.failed) (trace_of l.reply) (encode_lower (drop l.byte-index l.byte-items))
