-- Each public function's own contract: it asks nothing, and two answers which it allows are equal.
use Rattle.std.proofs.Common.{refl}
use Rattle.bits.specs.Contract.{Sole}
use Rattle.bits.proofs.Tying.{same, sole}
use Rattle.replies.proofs.emitting
use Rattle.replies.specs.contracts.emitting as emitting-said
use Rattle.replies.proofs.shown
use Rattle.replies.specs.contracts.shown as shown-said

pub tied_emit : Sole emitting-said.emit.ended emitting.emit.Reads.Asked emitting.emit.Reads.Post
tied_emit = sole (λ κs a. tt) (λ κs a r r' ws ws' p q. (same p.len q.len, λ i. (same p.bytes q.bytes i, (tt, (tt, (tt, tt))))))

pub tied_log_of : Sole shown-said.log_of.ended shown.log_of.Reads.Asked shown.log_of.Reads.Post
tied_log_of = sole (λ κs a. tt) (λ κs a r r' ws ws' p q. (same p q, refl))
