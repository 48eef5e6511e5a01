-- Each test of the table of refusals, by the history (Refused) and by the state.
use Rattle.std.proofs.Common.{None, Ok, is_none, unwrap_or, ◌≡◌, refl, sym, ap, ap₂, ◌∙◌, Bool, true, false, not, ◌&&◌, ◌||◌, List, ℕ, zero, suc, ◌*◌, arith, eqb, ltb, get_or}
use mathlib.Core.Bool.{not-not, or_assoc, or_comm}
use borrow.Author.Tests.{not-false}
use Rattle.bits.specs.Bit.{bit_in}
use Rattle.frames.specs.declared.shapes.Frame.TheVariants as fs
use Rattle.refusals.specs.First.{first_of}
use Rattle.device_state.specs.State.{whole_of}
use Rattle.device_state.specs.Table.{some_below}
use Rattle.device_state.specs.declared.shapes.Settings.{Settings}
use Rattle.device_state.specs.Contradictory.{settings_out, row_refused, tally_refused}
use Rattle.rules.specs.Call.{host_frame}
use Rattle.rules.specs.Positions.{left_of}
use Rattle.rules.specs.Tests.{wrong_time, wrong_size, all_moved, unready_at, some_unready, outside}
use Rattle.device.specs.Device.{contradictory_device, power_on}
use Rattle.device.specs.DataDue.{phase_entry}
use Rattle.device_state.specs.UnderWay.{link_busy}
use Rattle.device.specs.FactsOf.{facts_of}
use Rattle.device.specs.Lent.{lent}
use Rattle.device.specs.declared.state.Device.{Device}
use Rattle.device.proofs.Busy.{whole_is, moves_on}
use Rattle.device.proofs.Parts.{status_good}
use Rattle.device.proofs.StatusLaws.{phase_busy}
use Rattle.history.specs.Event.{Event}
use Rattle.history.specs.Replied.{FrameRead}
use Rattle.history.specs.Seen.{Transfer}
use Rattle.history.specs.ByHistory.{is_out, outstanding_with, whole, covers, is_open, left_in_transfer}
use Rattle.history.specs.Powered.{Powered}
use Rattle.history.specs.Refused.{out_of_bounds, write_open, untimely, too_long, some_tag, unfit, no_row, no_rows}
use Rattle.history.proofs.Transfers.{transfer_of}
use Rattle.history.proofs.Moving.{device_entry, busy_at}
use Rattle.history.proofs.Knows.{Known}
use Rattle.device.proofs.Phases.{open_entry_lem}

-- ---- settings

-- power-on is refused exactly where its settings are out of bounds (1), and replies nothing
pub powered : (s : Settings) → Powered s.depth s.capacity s.mask (power_on s).refusal (power_on s).len
unfolding power_on settings_out
powered s = record { refusal = let b : out_of_bounds s.depth s.capacity s.mask ≡ settings_out s = grind arith in rw b refl; silent = refl }

-- so a power-on that was taken had settings within them
pub power_taken : (s : Settings) → (power_on s).refusal ≡ None → out_of_bounds s.depth s.capacity s.mask ≡ false
unfolding first_of
power_taken s z = let e = (powered s).refusal in grind arith

-- and one that was refused did not
pub power_refused : (s : Settings) → ((power_on s).refusal ≡ None → ⊥) → out_of_bounds s.depth s.capacity s.mask ≡ true
unfolding first_of
power_refused s n = let e = (powered s).refusal in grind arith

-- 13
pub row_same : (mask r : ℕ) → row_refused mask r ≡ no_row mask r
row_same mask r = or_assoc (eqb r 0) (eqb r 9) (ltb 15 r || not (bit_in 16 mask r))

-- ---- what is under way

module _ (d : Device) where
  -- 5 and 8 of a phase
  pub open_same : is_open (transfer_of d) ≡ link_busy d.status
  open_same = grind arith

  module _ (g : contradictory_device d ≡ false) where
    -- all of the open phase's command
    phase_whole : is_none d.status.phase ≡ false → whole_of (phase_entry d).count ≡ 512 * (phase_entry d).count
    phase_whole n =
        let t = unwrap_or d.status.phase 0 in
        rw (open_entry_lem d.entries d.status.phase n) (whole_is d t g (phase_busy d.status d.errors.set (status_good d g) n))

    -- 6: what is left of an open write phase
    left_same : not (write_open (transfer_of d)) ≡ false → left_of (phase_entry d) ≡ left_in_transfer false (transfer_of d)
    left_same y =
        let e = phase_whole in
        grind arith

    -- 10: no read phase
    pub reading_same : (is_none d.status.phase || (phase_entry d).write) ≡ eqb (left_in_transfer true (transfer_of d)) 0
    reading_same =
        let m = moves_on d g in
        let e = phase_whole in
        grind arith

-- ---- each call

-- some tag is so, whichever end it is looked for from
some_same : (n : ℕ) (p q : ℕ → Bool) → ((t : ℕ) → p t ≡ q t) → some_below n p ≡ some_tag n q
unfolding some_below some_tag
some_same zero p q e = refl
some_same (suc n) p q e = or_comm (some_below n p) (p n) ∙ ap₂ ◌||◌ (e n) (some_same n p q e)

-- 13, of sixteen amounts
pub rows_same : (mask : ℕ) (ns : List ℕ) → tally_refused mask ns ≡ no_rows mask ns
unfolding tally_refused
rows_same mask ns = some_same 16 _ _ (λ r. ap (λ (x : Bool). not (eqb (get_or ns r 0) 0) && x) (row_same mask r))

module _ (d : Device) (h : List Event) (k : Known d h) where
  -- 5
  pub time_same : (m b x : List ℕ) (f : FrameRead) → wrong_time (facts_of d (lent (host_frame x) m b)) f ≡ untimely f h
  unfolding wrong_time
  time_same m b x f = grind arith

  -- a tag that 7 lets pass is outstanding
  pub passed : (t : ℕ) → not (is_out t h) ≡ false → busy_at d t ≡ true
  passed t o = sym (k.out t) ∙ not-false (is_out t h) o

  module _ (g : contradictory_device d ≡ false) where
    -- 6, where 5 does not hold
    pub size_same : (m b x : List ℕ) (f : FrameRead) → untimely f h ≡ false → wrong_size (facts_of d (lent (host_frame x) m b)) f ≡ too_long f h
    unfolding wrong_size
    size_same m b x (Ok (fs.Data n)) y =
        ap (λ (z : ℕ). ltb z n) (left_same d g (ap (λ (z : Transfer). not (write_open z)) (sym k.phase) ∙ y) ∙ ap (left_in_transfer false) (sym k.phase))
    size_same m b x _ y = refl

    -- 9, where 7 does not hold
    pub moved_same : (t : ℕ) → busy_at d t ≡ true → all_moved (device_entry d t) ≡ outstanding_with t whole h
    moved_same t o = ap (eqb (device_entry d t).moved) (whole_is d t g o) ∙ sym (k.moved t ∙ ap (λ (x : Bool). x && eqb (device_entry d t).moved (512 * (device_entry d t).count)) o)

    -- 12, where 7 does not hold
    pub sector_same : (t sector : ℕ) → busy_at d t ≡ true → outside (device_entry d t) sector ≡ not (outstanding_with t (covers sector) h)
    sector_same t sector o = sym (ap not (k.ranged t sector ∙ ap (λ (x : Bool). x && not (outside (device_entry d t) sector)) o) ∙ not-not (outside (device_entry d t) sector))

    -- 11, of one tag
    tag_same : (set t : ℕ) → unready_at d.entries d.status.outstanding set t ≡ bit_in 32 set t && not (outstanding_with t whole h)
    tag_same set t =
        ap (λ (x : Bool). bit_in 32 set t && x)
        (let m = moved_same t in let w = k.moved t in grind arith)

    -- 11
    pub set_same : (set : ℕ) → (eqb set 0 || some_unready d.entries d.status.outstanding set) ≡ unfit set h
    unfolding some_unready
    set_same set = ap (λ (x : Bool). eqb set 0 || x) (some_same 32 _ _ (tag_same set))
