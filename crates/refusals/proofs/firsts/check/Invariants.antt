use Rattle.std.proofs.Common.{◌≡◌, drop}
use Rattle.refusals.specs.First.{first_of}
use Rattle.refusals.proofs.firsts.check.Given as goal

abbrev pub invariant-loop-holds : goal.invariant-loop-holds
invariant-loop-holds l = first_of (drop l.holds-index l.tests) ≡ first_of l.tests
