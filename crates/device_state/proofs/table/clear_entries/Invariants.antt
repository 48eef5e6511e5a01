use Rattle.std.proofs.Common.{◌≡◌, ◌<◌, ◌^◌, length}
use Rattle.device_state.specs.Table.{table_without}
use Rattle.device_state.proofs.table.clear_entries.Given as goal

-- what is left of the set is still to be cleared
abbrev pub invariant-loop-rest : goal.invariant-loop-rest
invariant-loop-rest l = (length l.entries ≡ 32) × (l.rest < 2 ^ 32) × (table_without l.initial.entries l.set ≡ table_without l.entries l.rest)

abbrev pub decreases-loop-rest : goal.decreases-loop-rest
decreases-loop-rest l = l.rest
