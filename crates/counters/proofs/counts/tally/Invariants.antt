use Rattle.std.proofs.Common.{◌≡◌, take}
use Rattle.counters.specs.Counts.{tallied}
use Rattle.counters.proofs.counts.tally.Given as goal

-- the rows so far have their amounts
abbrev pub invariant-loop-row : goal.invariant-loop-row
invariant-loop-row l = l.values ≡ tallied l.initial.values (take l.row l.amounts)
