use Rattle.std.proofs.Common.{◌≡◌, ◌≤◌, drop}
use Rattle.call_scripts.specs.Numbers.{number_from, at_most}
use Rattle.call_scripts.proofs.numbers.wide_within.Given as goal

-- the digits so far tell a number that is not too large, and the word tells what the digits that are left make of it
abbrev pub invariant-loop-byte : goal.invariant-loop-byte
invariant-loop-byte l = record {
  small : l.number ≤ l.most;
  same : at_most l.most (number_from l.number (drop l.byte-index l.word)) ≡ at_most l.most (number_from 0 l.word);
}
