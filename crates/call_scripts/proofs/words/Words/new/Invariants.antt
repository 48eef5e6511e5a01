use Rattle.std.proofs.Common.{◌≡◌, map, filter}
use Rattle.call_scripts.specs.Words.{is_word}
use Rattle.call_scripts.proofs.words.Words.new.Given as goal

-- the words so far
abbrev pub invariant-loop-word : goal.invariant-loop-word
invariant-loop-word l = map (λ word. word.now) l.words.items ≡ filter is_word (map (λ word. word.now) l.yielded)
