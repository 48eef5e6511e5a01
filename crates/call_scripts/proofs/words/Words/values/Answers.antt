use Rattle.std.proofs.Common.{◌≡◌, ◌∙◌, sym, ap, ◌+◌, arith, take, None}
use Rattle.call_scripts.specs.Words.{long_at}
use Rattle.call_scripts.proofs.WriteLaws.{values_none, values_all}
use Rattle.call_scripts.proofs.words.Words.values.Goals as goal

pub returns-in_err-values : goal.returns-in_err-values
returns-in_err-values c =
    let place : c.from.result ≡ c.args.place = c.from.ensures in
    let none : c.long.result ≡ None = grind arith in
    let told : long_at c.args.self.now (c.args.place + c.loop-row.row) ≡ None = ap (λ n. long_at c.args.self.now (n + c.loop-row.row)) (sym place) ∙ sym c.long.ensures ∙ none in
    c.from_residual.ensures ∙ values_none c.args.self.now c.args.place c.loop-row.row (take c.loop-row.row c.loop-row.values) (omega arith) c.loop-row.invariant.so_far told

pub returns : goal.returns
returns c = values_all c.args.self.now c.args.place c.loop-row.row c.loop-row.values c.loop-row.invariant.long (omega arith) c.loop-row.invariant.so_far
