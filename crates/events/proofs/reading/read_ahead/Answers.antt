use Rattle.std.proofs.Common.{◌≡◌, ◌+◌, ◌≤◌, ◌∙◌, take, ap, sym, subst, length, length-take-le}
use Rattle.std.specs.Io.KnownBytes.{Consumes}
use Rattle.events.specs.Kinds.{body_of}
use Rattle.events.proofs.Ahead.{buffer_first, taken}
use Rattle.events.proofs.reading.read_ahead.Goals as goal

-- what is taken of the buffer are the bytes of the event
pub returns-clause-read : goal.returns-clause-read
returns-clause-read g c =
    let buffer = c.buffer.result.now in
    let front = c.in_ok-front.front.now in
    let chunk = c.in_ok-front.ensures.cases in
    let kind = c.in_ok-kind.kind in
    let found = c.in_ok-kind.ensures in
    let size : c.in_ok-kind.size ≡ body_of kind + 1 = found.size in
    let spelt = rw size at found.begins.spelt in
    let long : length front ≡ 20 = ap length chunk.same ∙ length-take-le 20 buffer chunk.enough in
    let fits : length front ≤ length buffer = rw long chunk.enough in
    let first : front ≡ take (length front) buffer = chunk.same ∙ ap (λ n. take n buffer) (sym long) in
    let moved = taken _ _ buffer front c.in_ok-kind.size (rw c.buffer.ensures (buffer_first g.R.Read.remaining c.args.reader.now.inner)) found.begins.within fits first (rw c.buffer.ensures c.skip.ensures.bytes) in
    rw c.new-event.ensures (spelt.0, subst (Consumes _ _) (ap (λ n. take n front) size ∙ spelt.1) moved)
