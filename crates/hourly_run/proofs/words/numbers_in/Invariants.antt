use Rattle.std.proofs.Common.{◌≡◌, drop, map}
use Rattle.hourly_run.specs.Numbers.{numbers_in}
use Rattle.hourly_run.proofs.HexNumbers.{behind_numbers}
use Rattle.hourly_run.proofs.words.numbers_in.Given as goal

abbrev pub invariant-loop-word : goal.invariant-loop-word
invariant-loop-word l = numbers_in (map (λ word. word.now) l.words) ≡ behind_numbers l.numbers.items (numbers_in (drop l.word-index (map (λ word. word.now) l.words)))
