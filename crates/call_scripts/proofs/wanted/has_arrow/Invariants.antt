use Rattle.std.proofs.Common.{◌≡◌, drop}
use Rattle.call_scripts.specs.Wanted.{has_arrow}
use Rattle.call_scripts.proofs.wanted.has_arrow.Given as goal

-- none so far
abbrev pub invariant-loop-at : goal.invariant-loop-at
invariant-loop-at l = has_arrow l.text ≡ has_arrow (drop l.at l.text)
