-- A command accepted, opened, moved on or finished leaves a state that does not contradict itself.
use Rattle.std.proofs.Common.{Some, None, is_some, is_none, unwrap_or, ◌≡◌, true, false, ℕ, ◌%◌, ◌^◌, ◌<◌, min, leb, eqb}
use Rattle.bits.specs.Pick.{pick}
use Rattle.bits.specs.Bit.{bit_in, with_bit_in, clear_in}
use Rattle.device_state.specs.State.{whole_of}
use Rattle.device_state.specs.Table.{entry_of, table_with, table_without}
use Rattle.rules.specs.Positions.{left_of, advanced_by, move_of}
use Rattle.device_state.specs.Contradictory.{busy_bad}
use Rattle.rules.specs.declared.acts.Queued.{Queued}
use Rattle.device.specs.Device.{contradictory_device}
use Rattle.device.specs.After.{accepted_by, moved_by, opened_for, finished_by}
use Rattle.device.specs.declared.state.Device.{Device}
use Rattle.device.proofs.Parts.{tag_good, status_good, retagged_good}
use Rattle.device.proofs.Retagging.{accepted_tag, opened_tag, moved_tag, finished_tag}
use Rattle.device.proofs.StatusLaws.{status_with, free_status, kept_status, phase_good, phase_busy, opened_idle, moved_idle, none_left}
use Rattle.device.proofs.Phases.{none_open}

-- accepted: neither halted nor held, no phase open, with an entry that is right for its tag
pub accepted_good : (d : Device) (q : Queued) → contradictory_device d ≡ false → d.status.halted ≡ false → d.status.held ≡ false → is_some d.status.phase ≡ false
    → q.tag < 32 → busy_bad d.settings q.entry q.tag false ≡ false → contradictory_device (accepted_by d q) ≡ false
unfolding accepted_by
accepted_good d q h halted held phase l b =
    let o : ℕ = with_bit_in 32 d.status.outstanding q.tag in
    retagged_good d (status_with o d.status.phase d.status.halted d.status.held) (table_with d.entries q.tag q.entry) h
    (λ t k.
    accepted_tag d.settings d.entries d.status.outstanding d.status.phase q.tag q.entry (none_open d.status.phase phase) l b t k
    (tag_good d h t k))
    (free_status o d.status.phase d.status.halted d.status.held d.errors.set halted held phase)

-- opened: the tag is outstanding and not all of it has moved, no other phase is open
pub opened_good : (d : Device) (tag : ℕ) → contradictory_device d ≡ false → is_some d.status.phase ≡ false → bit_in 32 d.status.outstanding tag ≡ true
    → eqb (entry_of d.entries tag).moved (whole_of (entry_of d.entries tag).count) ≡ false → contradictory_device (opened_for d tag) ≡ false
unfolding opened_for
opened_good d tag h phase b m =
    retagged_good d (status_with d.status.outstanding (Some tag) d.status.halted d.status.held) d.entries h
    (opened_tag d.settings d.entries d.status.outstanding d.status.phase tag (none_open d.status.phase phase) b m (tag_good d h))
    (kept_status d.status.outstanding d.status.outstanding d.status.phase (Some tag) d.status.halted d.status.held d.errors.set (status_good d h) (λ k. k)
    (opened_idle d.status.outstanding tag d.status.halted d.status.held b))

-- moved: n bytes in the open phase, or what is left, whole Dwords
pub moved_good : (d : Device) (k : ℕ) → contradictory_device d ≡ false → is_none d.status.phase ≡ false → min k (left_of (entry_of d.entries (unwrap_or d.status.phase 0))) % 4 ≡ 0
    → contradictory_device (moved_by d (move_of d.status (entry_of d.entries (unwrap_or d.status.phase 0)) k)) ≡ false
unfolding moved_by move_of
moved_good d k h n four =
    let e = entry_of d.entries (unwrap_or d.status.phase 0) in
    let last = leb (left_of e) k in
    retagged_good d (status_with d.status.outstanding (pick last None d.status.phase) d.status.halted d.status.held)
    (table_with d.entries (unwrap_or d.status.phase 0) (advanced_by e (min k (left_of e)))) h
    (moved_tag d.settings d.entries d.status.outstanding d.status.phase k n (phase_busy d.status d.errors.set (status_good d h) n) four (tag_good d h))
    (kept_status d.status.outstanding d.status.outstanding d.status.phase (pick last None d.status.phase) d.status.halted d.status.held d.errors.set
    (status_good d h) (λ k. k)
    (moved_idle last d.status.outstanding d.status.phase d.status.halted d.status.held (phase_good d.status d.errors.set (status_good d h))))

-- finished: a set of 32 bits, while no phase is open
pub finished_good : (d : Device) (set : ℕ) → contradictory_device d ≡ false → set < 2 ^ 32 → is_some d.status.phase ≡ false → contradictory_device (finished_by d set) ≡ false
unfolding finished_by
finished_good d set h l phase =
    let o : ℕ = clear_in 32 d.status.outstanding set in
    retagged_good d (status_with o d.status.phase d.status.halted d.status.held) (table_without d.entries set) h
    (λ t k. finished_tag d.settings d.entries d.status.outstanding d.status.phase set l t k (tag_good d h t k))
    (kept_status d.status.outstanding o d.status.phase d.status.phase d.status.halted d.status.held d.errors.set (status_good d h)
    (none_left d.status.outstanding set) (rw (none_open d.status.phase phase)))
