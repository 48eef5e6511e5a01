use Rattle.std.proofs.Common.{◌≡◌, ◌++◌, drop, take}
use Rattle.call_scripts.specs.Parts.{before, behind}
use Rattle.call_scripts.proofs.parts.parts_at.Given as goal

-- no such byte so far
abbrev pub invariant-loop-at : goal.invariant-loop-at
invariant-loop-at l = (before l.byte l.text ≡ take l.at l.text ++ before l.byte (drop l.at l.text)) × (behind l.byte l.text ≡ behind l.byte (drop l.at l.text))
