use Rattle.std.proofs.Common.{rules, tests, ap, ◌∙◌, ◌==◌, ◌%◌, length}
use Rattle.std.specs.Char.{is_ascii_whitespace}
use Rattle.std.proofs.lemmas.Iterator.Search.{all_from_yields_List}
use Rattle.std.proofs.lemmas.Iterator.Splits.{YieldsList-from_slice_split}
use Rattle.page_text.specs.HexText.{in_units, digits_each}
use Rattle.page_text.proofs.parsing.is_in_units.Goals as goal

pub returns : goal.returns
unfolding in_units
returns c =
    all_from_yields_List (λ group. length group % digits_each c.args.notation == 0) _ _ _ c.all.ensures.ran
    (YieldsList-from_slice_split _ is_ascii_whitespace c.args.text.now c.split.ensures.rest c.split.ensures.done c.split.ensures.closure
    (λ x r q k. (search rules, k.called.met.0 ∙ ap is_ascii_whitespace k.shows)))
    (λ x b q k. search (rules, tests))
