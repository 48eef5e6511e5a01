-- SRST, release, a halt and its end, a media error and zeroed counters leave a state that does not contradict itself.
use Rattle.std.proofs.Common.{Option, is_none, unwrap_or, ◌≡◌, Bool, true, false, not, ◌&&◌, ℕ, eqb, ltb, arith}
use Rattle.bits.specs.Bit.{bit_in}
use Rattle.counters.specs.Counts.{single}
use Rattle.device_state.specs.Contradictory.{status_bad, record_bad, contradictory}
use Rattle.bits.proofs.Picks.{by_test}
use Rattle.rules.specs.declared.acts.Fault.{Fault}
use Rattle.device.specs.Device.{contradictory_device}
use Rattle.device_state.specs.declared.shapes.Status.{Status}
use Rattle.device.specs.After.{counted_by, with_status, halt_with, unhalted_device, zeroed_if, reset_held, released_device, failed_by, renewed_device}
use Rattle.device.specs.declared.state.Device.{Device}
use Rattle.device.proofs.Never.{fresh_table, fresh_rows}
use Rattle.device.proofs.Keeping.{counted_good, single_spares, first_kept, resets_kept, rest_good, rows_good, settings_good}
use Rattle.device.proofs.Parts.{table_good, status_good, refilled_good}

-- SRST
pub reset_held_good : (d : Device) → contradictory_device d ≡ false → contradictory_device (reset_held d) ≡ false
unfolding contradictory_device contradictory reset_held status_bad record_bad
reset_held_good d h = rw (settings_good d h, fresh_table d.settings) (rows_good d h)

-- zeroed counters
pub zeroed_good : (d : Device) (on : Bool) → contradictory_device d ≡ false → contradictory_device (zeroed_if d on) ≡ false
unfolding contradictory_device contradictory zeroed_if
zeroed_good d true h = rw (rest_good d h) (fresh_rows d.settings.mask)
zeroed_good d false h = h

abbrev status_again : Device → Bool → Bool → Status
status_again d halted held = record { outstanding = d.status.outstanding; phase = d.status.phase; halted = halted; held = held }

status_again_good : (d : Device) (halted held : Bool) → contradictory_device d ≡ false → status_bad (status_again d halted held) d.errors.set ≡ false
    → contradictory_device (with_status d (status_again d halted held) d.entries) ≡ false
status_again_good d halted held h e = refilled_good d (status_again d halted held) d.entries h (table_good d h) e

-- the end of a halt
pub unhalted_good : (d : Device) → contradictory_device d ≡ false → contradictory_device (unhalted_device d) ≡ false
unfolding unhalted_device status_bad
unhalted_good d h = status_again_good d false d.status.held h (let s = status_good d h in grind arith)

-- release
pub released_good : (d : Device) → contradictory_device d ≡ false → contradictory_device (released_device d) ≡ false
unfolding released_device status_bad
released_good d h = status_again_good d d.status.halted false h (let s = status_good d h in grind arith)

-- the record of a fault has no tag under NQ
untagged : (tag : Option ℕ) → is_none tag && not (eqb (unwrap_or tag 0) 0) ≡ false
untagged tag = grind arith

-- a halt: with no tag, or one that a queued command can have
pub halt_good : (d : Device) (f : Fault) → contradictory_device d ≡ false → ltb 31 (unwrap_or f.tag 0) ≡ false → contradictory_device (halt_with d f) ≡ false
unfolding contradictory_device contradictory halt_with status_bad record_bad
halt_good d f h tag = rw (settings_good d h, fresh_table d.settings, tag, untagged f.tag) (rows_good d h)

-- a media error: besides, counter 001h may go up by one, and row 0 is kept
pub failed_good : (d : Device) (f : Fault) → contradictory_device d ≡ false → ltb 31 (unwrap_or f.tag 0) ≡ false → contradictory_device (failed_by d f) ≡ false
unfolding failed_by
failed_good d f h tag =
    by_test (λ (e : Device). contradictory_device (halt_with e f) ≡ false) (bit_in 8 f.error 7) (counted_by d (single 0)) d
    (λ _. halt_good (counted_by d (single 0)) f (counted_good d (single 0) h (single_spares d.settings.mask 0 (first_kept d h))) tag)
    (λ _. halt_good d f h tag)

-- SRST and release together, and one link reset more
pub renewed_good : (d : Device) → contradictory_device d ≡ false → contradictory_device (renewed_device d) ≡ false
unfolding renewed_device released_device reset_held
renewed_good d h = counted_good (released_device (reset_held d)) (single 9) (released_good (reset_held d) (reset_held_good d h)) (single_spares d.settings.mask 9 (resets_kept d h))
