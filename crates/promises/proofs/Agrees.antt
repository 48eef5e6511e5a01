-- A state of which no clause of the rules holds is one that the device's own test lets pass.
use Rattle.std.proofs.Common.{◌≡◌, sym, ap, ◌∙◌, if◌then◌else◌, ◌+◌, ◌*◌, true, false, true≢false, ⊎_elim, ℕ, ◌/◌, ◌%◌, ◌^◌, ◌<◌, arith, eqb, ltb, eqb-true, eq-eqb, ltb-true, lt-ltb, Bool, subst, Option, Some, None}
use Rattle.bits.specs.Bit.{bit_in}
use Rattle.bits.proofs.Picks.{tested, and_left, and_right, or_right}
use Rattle.device_state.specs.Contradictory.{settings_out, status_bad, record_bad, row_bad_at, rows_bad, busy_bad, moved_bad}
use Rattle.frames.specs.Shared.{sectors_of}
use Rattle.device_state.specs.State.{task_in, tag_in, whole_of}
use Rattle.device_state.specs.UnderWay.{open_for}
use Rattle.device_state.specs.declared.shapes.Entry.{Entry}
use Rattle.device_state.specs.declared.shapes.Echo.{Echo}
use Rattle.device_state.specs.declared.shapes.Settings.{Settings}
use Rattle.device_state.specs.declared.shapes.ErrorRecord.{ErrorRecord}
use Rattle.device_state.proofs.TableLaws.{some_absent}
use Rattle.device.specs.Device.{contradictory_device}
use Rattle.device.specs.declared.state.Device.{Device}
use Rattle.device.proofs.Keeping.{settings_good, rows_good}
use Rattle.device.proofs.Parts.{status_good, record_good}
use Rattle.device.proofs.StatusLaws.{phase_good}
use Rattle.device.proofs.Phases.{own_open}
use Rattle.device.proofs.Busy.{busy_good, range_within, whole_is, moved_within, phase_more}
use Rattle.device.proofs.Busy as busy
use Rattle.history.proofs.Outstanding.{depth_below, tag_named, first_named, count_named, idle_zero}
use Rattle.promises.specs.Contradicts as odd
use Rattle.promises.specs.Contradicts.{IsOn, InBounds, no_error, named_tag, named_first, named_count, entry, Contradicts}

-- ---- a bit

pub bit_on : (w m t : ℕ) → t < w → IsOn m t → bit_in w m t ≡ true
bit_on w m t l o = rw (lt-ltb t w l) (eq-eqb (m / 2 ^ t % 2) 1 o)

pub on_bit : (w m t : ℕ) → bit_in w m t ≡ true → (t < w) × IsOn m t
on_bit w m t h = (ltb-true t w (and_left (ltb t w) (eqb (m / 2 ^ t % 2) 1) h), eqb-true (m / 2 ^ t % 2) 1 (and_right (ltb t w) (eqb (m / 2 ^ t % 2) 1) h))

pub off_bit : (w m t : ℕ) → (t < w → IsOn m t → ⊥) → bit_in w m t ≡ false
off_bit w m t n = ⊎_elim (λ (b : bit_in w m t ≡ true). let o = on_bit w m t b in absurd (n o.0 o.1)) (λ (b : bit_in w m t ≡ false). b) (tested (bit_in w m t))

-- ---- what a command's bytes name

pub tag_is : (b : Echo) → tag_in b ≡ named_tag b
unfolding task_in
tag_is b = omega arith

pub first_is : (b : Echo) → (task_in b).lba ≡ named_first b
unfolding task_in
first_is b = omega arith

pub count_is : (low high : ℕ) → sectors_of low high ≡ named_count low high
count_is low high = let e : high * 256 + low ≡ low + 256 * high = omega arith in ap (λ (n : ℕ). if eqb n 0 then 65536 else n) e

-- ---- the parts

in_bounds : (s : Settings) → settings_out s ≡ false → InBounds s
unfolding settings_out
in_bounds s h = record { some_tag = grind arith; most_tags = grind arith; some_sector = grind arith; most_sectors = grind arith; row_0 = grind arith; row_9 = grind arith }

-- a blank record that is let pass is all zeros
blank_zero : (r : ErrorRecord) → record_bad r ≡ false → r.set ≡ false → r ≡ no_error
unfolding record_bad
blank_zero r h b = grind arith

-- the phase's tag is outstanding
phase_out : (d : Device) (t : ℕ) → contradictory_device d ≡ false → d.status.phase ≡ Some t → bit_in 32 d.status.outstanding t ≡ true
phase_out d t h p = let idle = phase_good d.status d.errors.set (status_good d h) in grind arith

-- the phase is that of a tag, or not
pub open_named : (t : ℕ) (p : Option ℕ) → open_for p t ≡ true → p ≡ Some t
open_named t None x = absurd (true≢false (sym x))
open_named t (Some k) x = ap Some (eqb-true k t x)

not_open : (t : ℕ) (p : Option ℕ) → (p ≡ Some t → ⊥) → open_for p t ≡ false
not_open t p n = ⊎_elim (λ (b : open_for p t ≡ true). absurd (n (open_named t p b))) (λ (b : open_for p t ≡ false). b) (tested (open_for p t))

-- in no phase of its own all of a command has moved, or nothing
all_or_none : (e : Entry) → moved_bad e false ≡ false → 0 < e.moved → e.moved < whole_of e.count → ⊥
unfolding moved_bad
all_or_none e g some less = grind arith

-- ---- no clause holds

pub none_holds : (d : Device) → contradictory_device d ≡ false → Contradicts d → ⊥
unfolding busy_bad status_bad record_bad rows_bad
none_holds d h (odd.settings_out n) = n (in_bounds d.settings (settings_good d h))
none_holds d h (odd.tag_above_depth t o l) = let b = depth_below d t h (bit_on 32 _ t o.0 o.1) in absurd (omega arith)
none_holds d h (odd.range_past_capacity t o l) = let b = range_within d t h (bit_on 32 _ t o.0 o.1) in absurd (omega arith)
none_holds d h (odd.count_zero t o l) = let b = busy_good d t h (bit_on 32 _ t o.0 o.1) in grind arith
none_holds d h (odd.bytes_of_another t o n) =
    let b = bit_on 32 d.status.outstanding t o.0 o.1 in
    let e = entry d t in
    n (record { tag = sym (tag_is e.echo) ∙ tag_named d t h b; first = sym (first_is e.echo) ∙ first_named d t h b; count = sym (count_is e.features e.features_high) ∙ count_named d t h b })
none_holds d h (odd.moved_above t o l) =
    let b = bit_on 32 d.status.outstanding t o.0 o.1 in
    let w = whole_is d t h b in
    let m = moved_within d t h b in
    absurd (omega arith)
none_holds d h (odd.moved_fours t o n) = n (busy.moved_fours d t h (bit_on 32 _ t o.0 o.1))
none_holds d h (odd.moved_idle t o some less n) =
    let b = bit_on 32 d.status.outstanding t o.0 o.1 in
    let w = whole_is d t h b in
    let g = or_right _ _ (busy_good d t h b) in
    all_or_none (entry d t) (subst (λ (p : Bool). moved_bad (entry d t) p ≡ false) (not_open t d.status.phase n) g) some (omega arith)
none_holds d h (odd.phase_idle t p n) = n (on_bit 32 d.status.outstanding t (phase_out d t h p))
none_holds d h (odd.phase_done t p l) =
    let b = phase_out d t h p in
    let w = whole_is d t h b in
    let m = phase_more d t h b (own_open d.status.phase t p) in
    absurd (omega arith)
none_holds d h (odd.stopped_busy n e) = let g = status_good d h in grind arith
none_holds d h (odd.halted_held e f) = let g = status_good d h in grind arith
none_holds d h (odd.held_record e f) = let g = status_good d h in grind arith
none_holds d h (odd.record_tag l) = let g = record_good d h in grind arith
none_holds d h (odd.record_nq e n) = let g = record_good d h in grind arith
none_holds d h (odd.blank_bytes b n) = n (blank_zero d.errors (record_good d h) b)
none_holds d h (odd.idle_entry t l n m) = m (idle_zero d t h l (off_bit 32 d.status.outstanding t (λ l o. n (l, o))))
none_holds d h (odd.unkept_row row l n m) =
    let g = some_absent (row_bad_at d.settings.mask d.values) 16 row (rows_good d h) l in
    let k = off_bit 16 d.settings.mask row (λ l o. n o) in
    m (grind arith)
