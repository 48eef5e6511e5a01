use Rattle.std.proofs.Common.{◌≡◌, ◌-◌, [], get_or}
use Rattle.hourly_run.specs.Lines.{lines_of}
use Rattle.hourly_run.proofs.readings.line_at.Given as goal

abbrev pub invariant-loop : goal.invariant-loop
invariant-loop l = get_or (lines_of l.fn.text) l.fn.place [] ≡ get_or (lines_of l.rest) (l.fn.place - l.counter) []
