use Rattle.std.proofs.Common.{sym, ◌∙◌, arith}
use Rattle.hourly_run.proofs.HexNumbers.{none_hex, none_long, read_hex}
use Rattle.hourly_run.proofs.words.number_of.Goals as goal

pub returns : goal.returns
returns c = c.ok.ensures.value ∙ read_hex c.args.word.now (λ i. omega (arith, c.type_inv.word i)) (sym c.is_all_hex.ensures ∙ c.if-not-is_all_hex.false) c.if-word-gt4.false c.from_str_radix.result c.from_str_radix.ensures.value

pub returns-then-not-is_all_hex : goal.returns-then-not-is_all_hex
returns-then-not-is_all_hex c = none_hex c.args.word.now (sym c.is_all_hex.ensures ∙ c.if-not-is_all_hex.true)

pub returns-then-word-gt4 : goal.returns-then-word-gt4
returns-then-word-gt4 c = none_long c.args.word.now (sym c.is_all_hex.ensures ∙ c.if-not-is_all_hex.false) c.if-word-gt4.true
