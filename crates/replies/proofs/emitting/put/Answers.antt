use Rattle.replies.proofs.Sending.{sends_frame}
use Rattle.replies.proofs.emitting.put.Goals as goal

pub returns : goal.returns
returns c = sends_frame _ _ _ _ _ c.write.ensures c.unwrap_or.ensures c.write.auto.room
