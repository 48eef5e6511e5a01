use Rattle.std.proofs.Common.{length, map}
use Rattle.hourly_table.specs.Samples.{sampled}
use Rattle.hourly_table.proofs.Sorted.{sorted}
use Rattle.hourly_table.proofs.Sizes.{given}
use Rattle.hourly_table.proofs.tables.write_table.Goals as goal

pub write_lines-requires-clause-sorted : goal.write_lines-requires-clause-sorted
write_lines-requires-clause-sorted c =
    sorted c.args.samples.now c.args.numbers.now (given (map sampled c.args.samples.now) c.args.numbers.now (length c.args.out.now) c.in_ok-size.size c.in_ok-size.ensures).input

pub write_lines-requires-clause-room : goal.write_lines-requires-clause-room
write_lines-requires-clause-room c = (given (map sampled c.args.samples.now) c.args.numbers.now (length c.args.out.now) c.in_ok-size.size c.in_ok-size.ensures).room_for
