use Rattle.hourly_table.proofs.Writes.{WrittenAt}
use Rattle.hourly_table.proofs.HourRows.{row_by}
use Rattle.hourly_table.proofs.writing.write_hour.Given as goal

abbrev pub invariant-loop-number : goal.invariant-loop-number
invariant-loop-number l = WrittenAt (row_by l.hour) l.numbers l.initial.out l.number-index l.out l.len
