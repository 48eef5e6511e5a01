use Rattle.std.proofs.Common.{Err, ◌≡◌, sym, ◌∙◌, map, arith, rules}
use Rattle.std.proofs.lemmas.Result.{err_from_is_err_and}
use Rattle.hourly_table.specs.Samples.{sampled}
use Rattle.hourly_table.specs.Table.{table}
use Rattle.hourly_table.proofs.Sorted.{sorted}
use Rattle.hourly_table.proofs.Sizes.{size_refused, size_short, size_given}
use Rattle.hourly_table.proofs.Firsts.{passed}
use Rattle.hourly_table.proofs.Lefts.{left_some}
use Rattle.hourly_table.proofs.tables.table_size.Goals as goal

pub returns-in_err-check : goal.returns-in_err-check
returns-in_err-check c =
    let same : c.from_residual.result ≡ Err c.in_err-check.field-0.0 = search (rules, err_from_is_err_and) in
    rw same (size_refused (map sampled c.args.samples.now) c.args.numbers.now c.args.room c.in_err-check.field-0.0 c.in_err-check.ensures)

pub left_behind_table-requires : goal.left_behind_table-requires
left_behind_table-requires c = sorted c.args.samples.now c.args.numbers.now (passed _ tt tt c.in_ok-check.ensures).0

pub returns-in_err-left : goal.returns-in_err-left
returns-in_err-left c =
    let same : c.from_residual-in_err-left.result ≡ Err c.in_err-left.field-0.0 = search (rules, err_from_is_err_and) in
    rw same
    (rw c.in_err-left.ensures.ok_part at c.in_err-left.ensures.value
    ∙ size_short (map sampled c.args.samples.now) c.args.numbers.now c.args.room (passed _ tt tt c.in_ok-check.ensures).0 (sym c.in_err-left.ensures.ok_part ∙ c.left_behind_table.ensures))

pub overflow_sub-result : goal.overflow_sub-result
overflow_sub-result c =
    let l = left_some c.args.room (table (map sampled c.args.samples.now) c.args.numbers.now) c.in_ok-left.left (sym c.in_ok-left.ensures.ok_part ∙ c.left_behind_table.ensures) in
    omega (arith, l.fits, l.rest)

pub returns : goal.returns
returns c =
    size_given (map sampled c.args.samples.now) c.args.numbers.now c.args.room c.in_ok-left.left (passed _ tt tt c.in_ok-check.ensures).0 (sym c.in_ok-left.ensures.ok_part ∙ c.left_behind_table.ensures)
