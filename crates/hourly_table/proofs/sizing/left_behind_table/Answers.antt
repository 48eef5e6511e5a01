use Rattle.std.proofs.Common.{refl, map, ◌∙◌}
use Rattle.hourly_table.specs.Samples.{sampled}
use Rattle.hourly_table.specs.Table.{header, rows_of, table}
use Rattle.hourly_table.proofs.Lefts.{left_by, lacks_by, left_short, left_more}
use Rattle.hourly_table.proofs.sizing.left_behind_table.Goals as goal

pub returns-in_err-checked_sub : goal.returns-in_err-checked_sub
unfolding table
returns-in_err-checked_sub c =
    rw c.from_residual.ensures (left_short c.args.room header (rows_of (map sampled c.args.samples.now) c.args.numbers.now) (lacks_by c.args.room 21 header refl c.in_err-checked_sub.ensures))

pub returns : goal.returns
unfolding table
returns c =
    c.left_behind_rows.ensures ∙ left_more c.args.room header (rows_of (map sampled c.args.samples.now) c.args.numbers.now) c.in_ok-checked_sub.field-0 (left_by c.args.room _ 21 header refl c.in_ok-checked_sub.ensures)
