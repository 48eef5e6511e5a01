-- The digits behind so many zeros.
use Rattle.std.proofs.Common.{◌-◌, ◌++◌, ap, ◌∙◌, length-drop, min, take_all, arith}
use Rattle.page_text.proofs.Digits.{upper_laid, zeros_front}
use Rattle.page_text.proofs.words.push_upper.Goals as goal

pub returns-clause-bytes : goal.returns-clause-bytes
returns-clause-bytes c =
    let d = c.lay_digits-at in
    let from = min d.result (16 - c.args.width) in
    c.push.ensures.bytes
    ∙ ap (λ l. c.args.text.now.items ++ l) (rw c.min.ensures (take_all _ _ (omega (arith, length-drop from d.new.places, d.array_long))
    ∙ upper_laid d.new.places c.args.n d.result c.args.width d.array_long d.ensures.inside c.requires.width d.ensures.digits (d.ensures.front ∙ zeros_front d.result d.ensures.inside)))
