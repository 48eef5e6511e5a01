use Rattle.std.proofs.Common.{◌≡◌, ◌*◌, ◌++◌, length, take, drop}
use Rattle.page_text.specs.HexWords.{swapped_bytes}
use Rattle.page_text.proofs.hex_words.swap_words.Given as goal

abbrev pub invariant-loop-word : goal.invariant-loop-word
invariant-loop-word l = record {
  sized : length l.page ≡ 512;
  told : swapped_bytes l.initial.page ≡ take (2 * l.word) l.page ++ swapped_bytes (drop (2 * l.word) l.page);
}
