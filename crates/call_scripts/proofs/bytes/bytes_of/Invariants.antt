use Rattle.std.proofs.Common.{◌≡◌, ◌≤◌, drop, map, length, Some}
use Rattle.call_scripts.specs.Bytes.{joined, all_bytes}
use Rattle.call_scripts.proofs.bytes.bytes_of.Given as goal

-- the bytes so far, which are not too many, and behind them those of the words that are left
abbrev pub invariant-loop-word : goal.invariant-loop-word
invariant-loop-word l = record {
  few : length l.bytes.items ≤ 16384;
  so_far : all_bytes (map (λ word. word.now) l.words) ≡ joined (Some l.bytes.items) (all_bytes (map (λ word. word.now) (drop l.word-index l.words)));
}
