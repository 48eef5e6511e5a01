use Rattle.std.proofs.Common.{◌≡◌, ◌≤◌, ◌-◌, length, take}
use Rattle.std.specs.Io.KnownBytes.{Consumes}
use Rattle.streams.proofs.watched.Watched.fill.Given as goal

abbrev pub invariant-loop-filled : goal.invariant-loop-filled
invariant-loop-filled g l =
    (l.filled ≤ length l.buffer) × (length l.buffer ≡ length l.fn.buffer) × Consumes (g.R.Read.remaining l.fn.self.inner) (g.R.Read.remaining l.self.inner) (take l.filled l.buffer)
    × (l.self.failed ≡ l.fn.self.failed)

abbrev pub decreases-loop-filled : goal.decreases-loop-filled
decreases-loop-filled g l = length l.buffer - l.filled
