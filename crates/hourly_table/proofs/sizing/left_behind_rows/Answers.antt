use Rattle.std.proofs.Common.{ap, ◌∙◌}
use Rattle.hourly_table.specs.Room.{left_of}
use Rattle.hourly_table.proofs.Lefts.{left_nothing}
use Rattle.hourly_table.proofs.sizing.left_behind_rows.Goals as goal

pub returns-in-None : goal.returns-in-None
returns-in-None c = left_nothing c.args.room ∙ ap (left_of c.args.room) c.in-None.ensures
