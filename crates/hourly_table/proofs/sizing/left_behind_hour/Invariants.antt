use Rattle.hourly_table.proofs.Lefts.{LeftAt}
use Rattle.hourly_table.proofs.HourRows.{row_by}
use Rattle.hourly_table.proofs.sizing.left_behind_hour.Given as goal

abbrev pub invariant-loop-number : goal.invariant-loop-number
invariant-loop-number l = LeftAt (row_by l.hour) l.numbers l.room l.number-index l.left
