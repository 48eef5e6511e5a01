use Rattle.events.proofs.Ahead.{lies}
use Rattle.events.proofs.reading.lies_there.Goals as goal

pub returns-else-buffer-ge-EVENT_LIMIT : goal.returns-else-buffer-ge-EVENT_LIMIT
returns-else-buffer-ge-EVENT_LIMIT c = λ there waits. lies c.args.buffer.now c.first_kind.result c.first_kind.ensures (rw c.is_some.ensures at there) waits
