use Rattle.std.proofs.Common.{◌-◌, map}
use Rattle.hourly_table.specs.Samples.{sampled}
use Rattle.hourly_table.specs.Table.{hour_rows}
use Rattle.hourly_table.proofs.Lefts.{span}
use Rattle.hourly_table.proofs.Writes.{WrittenAt}
use Rattle.hourly_table.proofs.writing.write_hours.Given as goal

abbrev pub invariant-loop-hour : goal.invariant-loop-hour
invariant-loop-hour l = WrittenAt (hour_rows (map sampled l.samples) l.numbers) (span l.first l.last) l.initial.out (l.hour - l.first) l.out l.len
