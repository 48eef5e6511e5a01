-- The state at the end of every run is what its history tells.
use Rattle.std.proofs.Common.{◌≡◌, refl, sym, ap, ap₂, subst, ◌∙◌, Bool, true, false, not, List, ℕ, ◌≤◌, Option, Some, None, is_none, is_some, ⊎_elim, arith}
use Rattle.pages.specs.Read11.{no_number}
use Rattle.refusals.specs.First.{first_of, unless}
use Rattle.refusals.specs.Ladders.{power_ladder, counter_ladder}
use Rattle.device.specs.Counter.{counter_of, count_of}
use Rattle.device.specs.Device.{contradictory_device, fresh_device}
use Rattle.device.proofs.Never.{zeros_contradict}
use Rattle.device_state.specs.declared.shapes.Settings.{Settings}
use Rattle.device.specs.Lent.{Lent}
use mathlib.Core.Bool.{false≢true}
use Rattle.bits.proofs.Picks.{tested, pick_no, and_left, and_right}
use Rattle.device.specs.DataDue.{phase_entry, writing, data_due}
use Rattle.device.specs.declared.state.Device.{Device}
use Rattle.device.proofs.Due.{due_none}
use Rattle.history.proofs.Answering.{Stands, left_is}
use Rattle.history.proofs.Transfers.{transfer_shut, transfer_open}
use Rattle.history.specs.ByHistory.{under_way_after}
use Rattle.history.specs.Run.{AllTyped, run_from, history}
use Rattle.history.specs.Refused.{out_of_bounds, write_open}
use Rattle.history.specs.Polled.{no_counter}
use Rattle.history.specs.StateAgrees.{AgreesOutstanding, AgreesWaits, AgreesCounters, AgreesAsked, AgreesDepth, AgreesCount, AgreesConsistent, AgreesDue}
use Rattle.history.proofs.Core.{inv_total}
use Rattle.history.proofs.Counters.{counting_true}
use Rattle.history.proofs.Asked11.{counter_true}
use Rattle.history.proofs.Soundness.{by_power}
use Rattle.history.proofs.RefusedTests.{power_taken, power_refused}
use Rattle.history.proofs.Runs.{held, run_depth}

-- the same answer of rows that agree, and values that do where 1 does not hold
asked_same : {A : Type 0} {c o n m : Bool} {x y : A} → c ≡ o → n ≡ m → (o ≡ false → x ≡ y) → unless (first_of (counter_ladder c n)) x ≡ unless (first_of (counter_ladder o m)) y
unfolding first_of
asked_same {A} {c} {o} {n} {m} {x} {y} e f g = grind arith

module _ (s : Settings) (as' : List Lent) (t : AllTyped as') where
  -- bit t of the mask is set exactly when a command with tag t is outstanding by the history, and there is at most one
  pub told_outstanding : AgreesOutstanding (run_from s as').state (history s as')
  told_outstanding = (held s as' t).inv.number

  -- halted exactly while an error waits
  pub told_waits : AgreesWaits (run_from s as').state (history s as')
  told_waits = (held s as' t).inv.waiting

  -- every counter is its events since the last zeroing, held at the top
  pub told_counters : AgreesCounters (run_from s as').state (history s as')
  told_counters = (counting_true s as' t).value

  -- refusal 1 of the state, by the settings
  one_same : contradictory_device (run_from s as').state ≡ out_of_bounds s.depth s.capacity s.mask
  one_same =
      let i = (held s as' t).sound in
      by_power s (λ z. i.good z ∙ sym (power_taken s z)) (λ n. ap contradictory_device (i.zeros n) ∙ zeros_contradict ∙ sym (power_refused s n))

  -- and so is the answer of `Device::counter`
  pub told_asked : AgreesAsked s (run_from s as').state (history s as')
  unfolding counter_of first_of
  told_asked number c p = p.answer ∙ asked_same one_same (let n : no_number number ≡ no_counter number = grind arith in n) (λ e. counter_true s as' t number (one_same ∙ e))

  -- the ones of the mask are the commands outstanding, at most the depth
  pub told_depth : AgreesDepth s.depth (run_from s as').state (history s as')
  told_depth =
      let e = inv_total (held s as' t).inv in
      record { counted = sym e; most = subst (λ (n : ℕ). n ≤ s.depth) e (run_depth s as' t) }

  -- and so is the answer of `Device::outstanding_count`
  pub told_count : AgreesCount s (run_from s as').state (history s as')
  unfolding count_of first_of
  told_count c p = p.answer ∙ ap₂ (λ (b : Bool) (n : ℕ). unless (first_of (power_ladder b)) n) one_same (sym (inv_total (held s as' t).inv))

  -- the state does not contradict itself
  pub told_consistent : AgreesConsistent s (run_from s as').state
  told_consistent = record { good = (held s as' t).sound.good; zeros = (held s as' t).sound.zeros }

  -- a write phase is open by the history exactly where one is by the state
  write_same : (phase : Option ℕ) → (run_from s as').state.status.phase ≡ phase → write_open (under_way_after (history s as')) ≡ writing (run_from s as').state
  write_same None e = ap write_open ((held s as' t).knows.phase ∙ transfer_shut (run_from s as').state e) ∙ rw e refl
  write_same (Some u) e = ap write_open ((held s as' t).knows.phase ∙ transfer_open (run_from s as').state u e) ∙ rw e (grind arith)

  -- the length that is due in an open write phase is what is left by the history
  due_open : contradictory_device (run_from s as').state ≡ false → writing (run_from s as').state ≡ true → AgreesDue (run_from s as').state (history s as')
  unfolding data_due
  due_open g w =
      let i = held s as' t in
      let d : Device = (run_from s as').state in
      let k : Stands d (history s as') = record { sized = i.wide.sized; known = i.knows; inv = i.inv; tracked = i.tracked; logged = i.logged; counting = i.counting } in
      let p : is_none d.status.phase ≡ false = ap not (and_left (is_some d.status.phase) (phase_entry d).write w) in
      rw (w, write_same d.status.phase refl ∙ w, left_is d (history s as') k g p false (and_right (is_some d.status.phase) (phase_entry d).write w)) refl

  -- and so is the answer of `Device::data_due`
  pub told_due : AgreesDue (run_from s as').state (history s as')
  unfolding fresh_device
  told_due =
      let i = (held s as' t).sound in
      let d : Device = (run_from s as').state in
      ⊎_elim
      (λ (w : writing d ≡ true). due_open (by_power s (λ z. i.good z) (λ n. absurd (false≢true (ap writing (sym (i.zeros n)) ∙ w)))) w)
      (λ (w : writing d ≡ false). due_none d w ∙ sym (pick_no (write_open (under_way_after (history s as'))) _ None (write_same d.status.phase refl ∙ w)))
      (tested (writing d))
