use Rattle.replies.proofs.Sending.{sends_then}
use Rattle.replies.proofs.emitting.put_open.Goals as goal

pub returns : goal.returns
returns c = sends_then (rw c.setup.ensures at c.put-len.ensures) c.put_if-len.ensures
