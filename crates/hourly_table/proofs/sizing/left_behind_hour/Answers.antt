use Rattle.std.proofs.Common.{ap, ◌∙◌, length, map, rules}
use Rattle.hourly_table.specs.Samples.{sampled}
use Rattle.hourly_table.specs.Room.{left_of}
use Rattle.hourly_table.proofs.Lefts.{left_nothing, left_by, lacks_by, left_step, left_stop, left_end}
use Rattle.hourly_table.proofs.HourRows.{row_by, rows_by}
use Rattle.hourly_table.proofs.sizing.left_behind_hour.Goals as goal

pub loop-number-init : goal.loop-number-init
loop-number-init c = left_nothing c.args.room

pub returns-in_err-left : goal.returns-in_err-left
returns-in_err-left c =
    let said = c.new-hour.ensures in
    rw c.from_residual.ensures
    (left_stop (row_by c.new-hour.result) c.args.numbers.now c.args.room c.loop-number.number-index c.loop-number.left 0 (search rules) c.loop-number.invariant
    (lacks_by _ _ _ (c.len.ensures.value ∙ ap length c.row.ensures) c.in_err-left.ensures)
    ∙ ap (left_of c.args.room) (rows_by (map sampled c.args.samples.now) _ _ _ said.hour said.before said.page))

pub loop-number-preserved : goal.loop-number-preserved
loop-number-preserved c =
    left_step (row_by c.new-hour.result) c.args.numbers.now c.args.room c.loop-number.number-index c.loop-number.left 0 _ (search rules) c.loop-number.invariant
    (left_by _ _ _ _ (c.len.ensures.value ∙ ap length c.row.ensures) c.in_ok-left.ensures)

pub returns : goal.returns
returns c =
    let said = c.new-hour.ensures in
    left_end (row_by c.new-hour.result) c.args.numbers.now c.args.room c.loop-number.number-index c.loop-number.left (search rules) c.loop-number.invariant
    ∙ ap (left_of c.args.room) (rows_by (map sampled c.args.samples.now) _ _ _ said.hour said.before said.page)
