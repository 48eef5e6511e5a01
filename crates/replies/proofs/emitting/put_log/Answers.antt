use Rattle.std.proofs.Common.{[], ◌∷◌, append_assoc}
use Rattle.std.specs.Result.{result_unwrap_or}
use Rattle.frames.specs.Write.{payload}
use Rattle.replies.specs.Replies.{sweep_if, pio_reply}
use Rattle.replies.proofs.Sending.{sends_then}
use Rattle.replies.proofs.emitting.put_log.Goals as goal

pub returns : goal.returns
returns c =
    let a = c.args in
    let e = append_assoc (sweep_if a.sweep) (pio_reply a.task ∷ []) (payload (result_unwrap_or a.page []) ∷ []) in
    let swept = rw c.sweep.ensures at c.put_if-len.ensures in
    rw e at (sends_then (sends_then swept (rw c.pio.ensures at c.put-len.ensures)) (rw c.page_bytes.ensures at c.put-len-2.ensures))
