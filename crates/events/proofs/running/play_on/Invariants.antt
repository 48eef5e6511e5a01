use Rattle.std.proofs.Common.{◌≡◌}
use Rattle.std.specs.Io.Buffered.{reader_remaining}
use Rattle.streams.specs.Gathered.{held_back, gathering}
use Rattle.events.proofs.Played.{Played}
use Rattle.events.proofs.running.play_on.Given as goal

-- the events so far are played, and no read has failed since
abbrev pub invariant-loop-number : goal.invariant-loop-number
invariant-loop-number g l =
    Played l.traced l.fn.bench (gathering (g.W.Write.contents l.fn.out.inner) (held_back l.fn.lines) l.fn.out.failed) (reader_remaining g.R.Read.remaining l.fn.reader.inner) (reader_remaining g.R.Read.remaining l.reader.inner) (gathering (g.W.Write.contents l.out.inner) (held_back l.lines) l.out.failed) l.bench l.number
    × (l.reader.failed ≡ l.fn.reader.failed)
