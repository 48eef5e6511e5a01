use Rattle.std.proofs.Common.{◌≡◌, ◌++◌, drop, take}
use Rattle.call_scripts.specs.Words.{asked_text}
use Rattle.call_scripts.proofs.words.asked_text.Given as goal

-- all so far is asked for
abbrev pub invariant-loop-at : goal.invariant-loop-at
invariant-loop-at l = asked_text l.line ≡ take l.at l.line ++ asked_text (drop l.at l.line)
