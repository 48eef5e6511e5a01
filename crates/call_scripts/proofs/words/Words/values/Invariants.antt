use Rattle.std.proofs.Common.{◌≡◌, length, take, Some}
use Rattle.call_scripts.specs.Writings.{values_at}
use Rattle.call_scripts.proofs.words.Words.values.Given as goal

-- the values so far
abbrev pub invariant-loop-row : goal.invariant-loop-row
invariant-loop-row l = record {
  long : length l.values ≡ 16;
  so_far : values_at l.self l.place l.row ≡ Some (take l.row l.values);
}
