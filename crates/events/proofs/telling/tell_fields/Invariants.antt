use Rattle.streams.specs.Gathered.{held_back, gathering}
use Rattle.frames.specs.Cut.{cut}
use Rattle.events.specs.Lines.{fields_of}
use Rattle.events.proofs.Pushing.{PushedOf}
use Rattle.events.proofs.telling.tell_fields.Given as goal

abbrev pub invariant-loop-reply : goal.invariant-loop-reply
invariant-loop-reply g l = PushedOf (gathering (g.W.Write.contents l.fn.out.inner) (held_back l.fn.lines) l.fn.out.failed) (gathering (g.W.Write.contents l.out.inner) (held_back l.lines) l.out.failed) (fields_of l.traced (cut l.replies)) (fields_of l.traced l.reply-iterator)
