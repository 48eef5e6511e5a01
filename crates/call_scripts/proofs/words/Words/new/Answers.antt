use Rattle.std.proofs.Common.{rules, ap, ◌∙◌, filter, List, ℕ}
use Rattle.std.specs.Char.{is_ascii_whitespace}
use Rattle.std.proofs.lemmas.Iterator.Consumers.{YieldsList-end}
use Rattle.std.proofs.lemmas.Iterator.Splits.{YieldsList-from_slice_split}
use Rattle.call_scripts.specs.Words.{is_word, words_of}
use Rattle.call_scripts.proofs.words.Words.new.Goals as goal

pub returns : goal.returns
unfolding words_of
returns c =
    let all = YieldsList-end
    (YieldsList-from_slice_split _ is_ascii_whitespace c.args.text.now (cc) (cc) (cc) (λ x r q k. (search rules, k.called.met.0 ∙ ap is_ascii_whitespace k.shows)))
    c.loop-word.yielded _ c.loop-word.yielded_by _ _ c.in-None.is c.next.ensures.steps in
    c.loop-word.invariant ∙ ap (λ (pieces : List (List ℕ)). filter is_word pieces) all.0
