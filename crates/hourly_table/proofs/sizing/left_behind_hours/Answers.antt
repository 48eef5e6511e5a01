use Rattle.std.proofs.Common.{◌≡◌, ◌-◌, map, arith}
use Rattle.hourly_table.specs.Samples.{sampled}
use Rattle.hourly_table.specs.Table.{hour_rows}
use Rattle.hourly_table.specs.Room.{rows_between}
use Rattle.hourly_table.proofs.Lefts.{left_nothing, hour_step, hour_stop, hour_last, hour_none}
use Rattle.hourly_table.proofs.sizing.left_behind_hours.Goals as goal

pub loop-hour-init : goal.loop-hour-init
loop-hour-init c = let same : c.args.first - c.args.first ≡ 0 = omega arith in rw same (left_nothing c.args.room)

pub returns-in_err-left : goal.returns-in_err-left
unfolding rows_between
returns-in_err-left c =
    rw c.from_residual.ensures
    (hour_stop (hour_rows (map sampled c.args.samples.now) c.args.numbers.now) c.args.first c.args.last c.args.room c.loop-hour.hour c.loop-hour.left (omega arith) (omega arith) c.loop-hour.invariant
    c.in_err-left.ensures)

pub loop-hour-preserved : goal.loop-hour-preserved
loop-hour-preserved c =
    hour_step (hour_rows (map sampled c.args.samples.now) c.args.numbers.now) c.args.first c.args.last c.args.room c.loop-hour.hour c.loop-hour.left _ (omega arith) (omega arith) c.loop-hour.invariant
    c.in_ok-left.ensures

pub returns : goal.returns
unfolding rows_between
returns c =
    hour_none (hour_rows (map sampled c.args.samples.now) c.args.numbers.now) c.args.first c.args.last c.args.room c.loop-hour.hour c.loop-hour.left (omega arith) c.loop-hour.invariant

pub returns-in_ok-left : goal.returns-in_ok-left
unfolding rows_between
returns-in_ok-left c =
    hour_last (hour_rows (map sampled c.args.samples.now) c.args.numbers.now) c.args.first c.args.last c.args.room c.loop-hour.hour c.loop-hour.left _ (omega arith) (omega arith) c.loop-hour.invariant
    c.in_ok-left.ensures
