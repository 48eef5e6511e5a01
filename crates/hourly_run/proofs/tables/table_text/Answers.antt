use Rattle.std.proofs.Common.{◌^◌, map, length, arith}
use Rattle.hourly_table.specs.Samples.{sampled}
use Rattle.hourly_run.proofs.Owing.{has_room}
use Rattle.hourly_run.proofs.tables.table_text.Goals as goal

pub returns-in-Err-write_table : goal.returns-in-Err-write_table
returns-in-Err-write_table c =
    absurd
    (has_room (map sampled c.args.samples.now) c.args.numbers.now (2 ^ 30) c.in-Ok.size (length c.deref_mut.result.now) c.in-Err-write_table.refusal c.in-Ok.ensures
    (omega (arith, c.deref_mut.ensures.len, c.in_ok-table.ensures.len)) c.in-Err-write_table.ensures.answer)
