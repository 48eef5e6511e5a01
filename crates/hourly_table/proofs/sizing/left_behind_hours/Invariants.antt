use Rattle.std.proofs.Common.{◌+◌, ◌-◌, map}
use Rattle.std.specs.List.{range_with_len}
use Rattle.hourly_table.specs.Samples.{sampled}
use Rattle.hourly_table.specs.Table.{hour_rows}
use Rattle.hourly_table.proofs.Lefts.{LeftAt}
use Rattle.hourly_table.proofs.sizing.left_behind_hours.Given as goal

abbrev pub invariant-loop-hour : goal.invariant-loop-hour
invariant-loop-hour l =
    LeftAt (hour_rows (map sampled l.samples) l.numbers) (range_with_len l.first (l.last + 1 - l.first)) l.room (l.hour - l.first) l.left
