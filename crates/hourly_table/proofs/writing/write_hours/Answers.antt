use Rattle.std.proofs.Common.{map, arith}
use Rattle.hourly_table.specs.Samples.{sampled}
use Rattle.hourly_table.specs.Table.{hour_rows}
use Rattle.hourly_table.specs.Room.{rows_between}
use Rattle.hourly_table.proofs.Lefts.{span, past_span}
use Rattle.hourly_table.proofs.Writes.{hour_room, hour_written, written_end}
use Rattle.hourly_table.proofs.writing.write_hours.Goals as goal

pub write_hour-len-requires-clause-room : goal.write_hour-len-requires-clause-room
unfolding rows_between
write_hour-len-requires-clause-room c =
    hour_room (hour_rows (map sampled c.args.samples.now) c.args.numbers.now) c.args.first c.args.last c.args.out.now c.loop-hour.hour c.loop-hour.out c.loop-hour.len (omega arith) (omega arith) c.loop-hour.invariant
    c.requires.room c.loop-hour.auto.out

pub loop-hour-preserved : goal.loop-hour-preserved
loop-hour-preserved c =
    hour_written (hour_rows (map sampled c.args.samples.now) c.args.numbers.now) c.args.first c.args.last c.args.out.now c.loop-hour.hour c.loop-hour.out c.loop-hour.len (omega arith) (omega arith) c.loop-hour.invariant
    _ _ c.write_hour-len.ensures.size c.write_hour-len.ensures.bytes

pub returns : goal.returns
unfolding rows_between
returns c =
    (written_end (hour_rows (map sampled c.args.samples.now) c.args.numbers.now) (span c.args.first c.args.last) c.args.out.now _ c.loop-hour.out c.loop-hour.len (past_span c.args.first c.args.last c.loop-hour.hour (omega arith)) c.loop-hour.invariant).0

pub returns-2 : goal.returns-2
unfolding rows_between
returns-2 c =
    (written_end (hour_rows (map sampled c.args.samples.now) c.args.numbers.now) (span c.args.first c.args.last) c.args.out.now _ _ _ (past_span c.args.first c.args.last _ (omega arith))
    (hour_written (hour_rows (map sampled c.args.samples.now) c.args.numbers.now) c.args.first c.args.last c.args.out.now c.loop-hour.hour c.loop-hour.out c.loop-hour.len (omega arith) (omega arith) c.loop-hour.invariant
    _ _ c.write_hour-len.ensures.size c.write_hour-len.ensures.bytes)).0
