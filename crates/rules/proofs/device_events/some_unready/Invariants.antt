use Rattle.std.proofs.Common.{◌≡◌, ◌<◌, ◌^◌}
use Rattle.rules.specs.Tests.{some_unready}
use Rattle.rules.proofs.device_events.some_unready.Given as goal

-- what is left of the set decides
abbrev pub invariant-loop-rest : goal.invariant-loop-rest
invariant-loop-rest l = (some_unready l.entries l.status.outstanding l.set ≡ some_unready l.entries l.status.outstanding l.rest) × (l.rest < 2 ^ 32)

abbrev pub decreases-loop-rest : goal.decreases-loop-rest
decreases-loop-rest l = l.rest
