use Rattle.std.proofs.Common.{ap, ◌∙◌, length, map, arith, rules}
use Rattle.bits.specs.Laid.{overlay}
use Rattle.hourly_table.specs.Samples.{sampled}
use Rattle.hourly_table.proofs.HourRows.{row_by, rows_by}
use Rattle.hourly_table.proofs.Writes.{written_row, written_end}
use Rattle.hourly_table.proofs.writing.write_hour.Goals as goal

pub loop-number-preserved : goal.loop-number-preserved
loop-number-preserved c =
    let said = c.new-hour.ensures in
    let rows = ap length (rows_by (map sampled c.args.samples.now) c.args.numbers.now c.args.hour c.new-hour.result said.hour said.before said.page) in
    written_row (row_by c.new-hour.result) c.args.numbers.now c.args.out.now c.loop-number.number-index c.loop-number.out c.loop-number.len _ 0 c.row-row.result.bytes c.lay.new.buf (search rules) c.loop-number.invariant
    (omega (arith, rows, c.requires.room)) c.loop-number.auto.out c.row-row.ensures c.len-len.ensures.value (search rules)

pub returns-clause-size : goal.returns-clause-size
returns-clause-size c =
    let said = c.new-hour.ensures in
    (written_end (row_by c.new-hour.result) c.args.numbers.now c.args.out.now c.loop-number.number-index c.loop-number.out c.loop-number.len (search rules) c.loop-number.invariant).1
    ∙ ap length (rows_by (map sampled c.args.samples.now) c.args.numbers.now _ _ said.hour said.before said.page)

pub returns-clause-bytes : goal.returns-clause-bytes
returns-clause-bytes c =
    let said = c.new-hour.ensures in
    (written_end (row_by c.new-hour.result) c.args.numbers.now c.args.out.now c.loop-number.number-index c.loop-number.out c.loop-number.len (search rules) c.loop-number.invariant).0
    ∙ ap (λ l. overlay l c.args.out.now) (rows_by (map sampled c.args.samples.now) c.args.numbers.now _ _ said.hour said.before said.page)
