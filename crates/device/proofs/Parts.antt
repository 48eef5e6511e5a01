-- The clauses of a state that does not contradict itself, one by one, and such a state from its clauses.
use Rattle.std.proofs.Common.{arith, ◌≡◌, false, List, ℕ, ◌<◌}
use Rattle.device_state.specs.Contradictory.{tag_bad, table_bad, status_bad, record_bad, contradictory}
use Rattle.device_state.specs.declared.shapes.Entry.{Entry}
use Rattle.device_state.specs.declared.shapes.Status.{Status}
use Rattle.device_state.proofs.TableLaws.{some_never, some_absent}
use Rattle.device.specs.Device.{contradictory_device}
use Rattle.device.specs.After.{with_status}
use Rattle.device.specs.declared.state.Device.{Device}
use Rattle.device.proofs.Keeping.{rows_good, settings_good}

-- no entry of the table
pub table_good : (d : Device) → contradictory_device d ≡ false → table_bad d.settings d.entries d.status.outstanding d.status.phase ≡ false
unfolding contradictory_device contradictory
table_good d h = grind arith

-- of any tag
pub tag_good : (d : Device) → contradictory_device d ≡ false → (t : ℕ) → t < 32
    → tag_bad d.settings d.entries d.status.outstanding d.status.phase t ≡ false
unfolding table_bad
tag_good d h t l = some_absent (tag_bad d.settings d.entries d.status.outstanding d.status.phase) 32 t (table_good d h) l

-- not the status
pub status_good : (d : Device) → contradictory_device d ≡ false → status_bad d.status d.errors.set ≡ false
unfolding contradictory_device contradictory
status_good d h = grind arith

-- not the record
pub record_good : (d : Device) → contradictory_device d ≡ false → record_bad d.errors ≡ false
unfolding contradictory_device contradictory
record_good d h = grind arith

-- with another status and table, if these do not contradict
pub refilled_good : (d : Device) (f : Status) (es : List Entry) → contradictory_device d ≡ false → table_bad d.settings es f.outstanding f.phase ≡ false
    → status_bad f d.errors.set ≡ false → contradictory_device (with_status d f es) ≡ false
unfolding contradictory_device contradictory
refilled_good d f es h t e = rw (settings_good d h, t, e, record_good d h) (rows_good d h)

-- the same, its table by its tags
pub retagged_good : (d : Device) (f : Status) (es : List Entry) → contradictory_device d ≡ false
    → ((t : ℕ) → t < 32 → tag_bad d.settings es f.outstanding f.phase t ≡ false)
    → status_bad f d.errors.set ≡ false → contradictory_device (with_status d f es) ≡ false
unfolding table_bad
retagged_good d f es h t e = refilled_good d f es h (some_never (tag_bad d.settings es f.outstanding f.phase) 32 t) e
