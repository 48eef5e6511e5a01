use Rattle.std.proofs.Common.{arith}
use Rattle.std.proofs.KnownBytes.{Appends-trans}
use Rattle.device_state.specs.State.{zero_entry}
use Rattle.call_scripts.proofs.RowLaws.{entries_more, entries_done}
use Rattle.call_scripts.proofs.rows.write_entries.Goals as goal

pub loop-tag-preserved : goal.loop-tag-preserved
loop-tag-preserved g c =
    let inv = c.loop-tag.invariant in
    (_, Appends-trans _ _ _ _ _ inv.1 c.in_ok-tell_entry.ensures, entries_more c.args.entries.now c.loop-tag.tag zero_entry inv.0 _ (omega arith) inv.2)

pub returns : goal.returns
returns g c =
    let inv = c.loop-tag.invariant in
    let e = entries_done c.args.entries.now c.loop-tag.tag inv.0 _ (omega arith) inv.2 in
    rw e at inv.1
