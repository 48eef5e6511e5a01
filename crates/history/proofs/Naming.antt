-- The bytes that the state keeps of a command are what the history tells of it: what each call does to them.
use Rattle.std.proofs.Common.{ne_eqb, Ok, Err, is_none, unwrap_or, ◌≡◌, refl, sym, ap, subst, ◌∙◌, true, false, not, ◌&&◌, ◌||◌, List, [], ◌∷◌, ⊎_elim, ℕ, ◌^◌, ◌<◌, eqb, eqb-true, arith}
use mathlib.Core.Bool.{and-false}
use borrow.Author.Tests.{eqb-false, not-true}
use Rattle.bits.specs.Pick.{pick}
use Rattle.bits.specs.Bit.{bit_in}
use Rattle.bits.proofs.Picks.{tested, and_left, and_right}
use Rattle.frames.specs.declared.shared.Task.{Task}
use Rattle.frames.specs.Write.{FrameValue}
use Rattle.frames.specs.declared.shapes.HostReg.{HostReg}
use Rattle.device_state.specs.State.{task_in}
use Rattle.device_state.specs.Table.{entry_of}
use Rattle.device_state.specs.declared.shapes.Entry.{Entry}
use Rattle.device_state.specs.declared.shapes.Settings.{Settings}
use Rattle.device_state.proofs.EchoLaws.{echo_task}
use Rattle.rules.specs.Call.{Call, host_frame}
use Rattle.rules.specs.Decide.{tag_asked, entry_for}
use Rattle.rules.specs.Medium.{part_of}
use Rattle.rules.specs.Positions.{move_of, advanced_by}
use Rattle.rules.specs.declared.facts.Facts.{Facts}
use Rattle.rules.specs.declared.acts.Queued.{Queued}
use Rattle.rules.specs.declared.acts.Act.{Act}
use Rattle.rules.proofs.Ruled as by
use Rattle.replies.specs.Replies.{setup_reply, activate_if, replies_of}
use Rattle.device.specs.Device.{power_on, fresh_device}
use Rattle.device.specs.Lent.{Lent, lent, Typed}
use Rattle.device.specs.After.{after_of, halt_with, reset_held, released_device, accepted_by, unhalted_device, zeroed_if, moved_by, opened_for, finished_by, failed_by, renewed_device, counted_by}
use Rattle.device.specs.DataDue.{phase_entry}
use Rattle.device.specs.FactsOf.{facts_of}
use Rattle.device.specs.Step.{Step, state_shown, step_by, step}
use Rattle.device.specs.declared.state.Device.{Device}
use Rattle.rules.proofs.Ruled.{heard_unsent}
use Rattle.device.proofs.Entering.{tag_small}
use Rattle.device.proofs.Fitting.{ReadFits, read_fits}
use Rattle.device.proofs.Sized.{SizedRecord}
use Rattle.device.proofs.Tags.{bit_with, bit_without, busy_below}
use Rattle.history.specs.Event.{Event}
use Rattle.history.specs.FrameAsks.{Asked, quiet, register_asks}
use Rattle.history.specs.FrameReading.{frame_asks}
use Rattle.history.specs.Reading.{call_asks}
use Rattle.history.specs.Asked.{asks}
use Rattle.history.specs.Replied.{FrameRead, some, collect}
use Rattle.history.specs.Seen.{Seen, accepts}
use Rattle.history.specs.Logged.{frame_task, call_task, named_by}
use Rattle.history.proofs.Views.{view, is_setup, is_brought}
use Rattle.history.proofs.Frames.{Read, read_seen, read_step}
use Rattle.history.proofs.Changes.{placed_same, placed_other, cleared_other}
use Rattle.history.proofs.Counts.{event_by, event_of}
use Rattle.history.proofs.Decided.{by_decided}
use Rattle.history.proofs.Moving.{device_entry, busy_at}
use Rattle.history.proofs.Sets.{no_busy}
use Rattle.history.proofs.Soundness.{from_power}
use Rattle.device.proofs.Phases.{open_entry_lem}

-- what the bytes that are kept of tag t's command name
abbrev kept : Device → ℕ → Task
kept d t = task_in (device_entry d t).echo

-- of each outstanding command they are those of the newest command accepted with its tag
abbrev pub Named : Device → List Event → Type 0
Named d h = (t : ℕ) → busy_at d t ≡ true → kept d t ≡ named_by t h

-- what is outstanding was so before, with the same bytes
abbrev Stay : Device → Device → Type 0
Stay d d' = (t : ℕ) → busy_at d' t ≡ true → (busy_at d t ≡ true) × (kept d' t ≡ kept d t)

-- nothing is outstanding
empty_stay : (d d' : Device) → d'.status.outstanding ≡ 0 → Stay d d'
empty_stay d d' z t b = absurd (no_busy d'.status.outstanding t z b)

-- a part of the open phase's command moves: its bytes stay
moved_stay : (d : Device) (n : ℕ) → is_none d.status.phase ≡ false → Stay d (moved_by d (move_of d.status (phase_entry d) n))
unfolding moved_by move_of advanced_by
moved_stay d n p t b =
    let u : ℕ = unwrap_or d.status.phase 0 in
    let d' : Device = moved_by d (move_of d.status (phase_entry d) n) in
    let q : phase_entry d ≡ device_entry d u = open_entry_lem d.entries d.status.phase p in
    let l = busy_below d.status.outstanding t b in (
      b,
      ⊎_elim
          (λ (y : eqb t u ≡ true).
          let e = eqb-true t u y in
          ap (kept d') e ∙ ap (λ (x : Entry). task_in x.echo) (placed_same d.entries u _ (subst (λ (x : ℕ). x < 32) e l)) ∙ ap (λ (x : Entry). task_in x.echo) q ∙ ap (kept d) (sym e))
          (λ (y : eqb t u ≡ false). ap (λ (x : Entry). task_in x.echo) (placed_other d.entries u _ t l (eqb-false t u y)))
          (tested (eqb t u)),
    )

-- a set is finished: the others stay
finished_stay : (d : Device) (set : ℕ) → set < 2 ^ 32 → Stay d (finished_by d set)
unfolding finished_by
finished_stay d set w t b =
    let l = busy_below (finished_by d set).status.outstanding t b in
    let both : not (bit_in 32 set t) && busy_at d t ≡ true = sym (bit_without d.status.outstanding set t w l) ∙ b in (
      and_right (not (bit_in 32 set t)) (busy_at d t) both,
      ap (λ (x : Entry). task_in x.echo) (cleared_other d.entries set t l (not-true (bit_in 32 set t) (and_left (not (bit_in 32 set t)) (busy_at d t) both))),
    )

-- a command that is not queued leaves each command that is still outstanding as it was
other_stay : (d : Device) {v : Facts} {f : HostReg} {a : Act} → by.Other v f a → Stay d (after_of d a)
unfolding after_of unhalted_device zeroed_if halt_with
other_stay d {a = a} (by.busy z) = empty_stay d (after_of d a) refl
other_stay d _ = λ t b. (b, refl)

-- and is not accepted, whatever it is answered
unqueued : (f : HostReg) → (eqb f.command 0x60 || eqb f.command 0x61) ≡ false → (rs : List FrameValue) → accepts (view (register_asks f) rs) ≡ false
unfolding view
unqueued f e rs = grind arith

module _ (d : Device) (h : List Event) (n : Named d h) where
  -- what the history tells next, from what was asked and sent, and the bytes of the call
  abbrev Next : Asked → List FrameValue → Task → ℕ → Task
  Next q rs task t = pick (accepts (view q rs) && eqb (view q rs).asks.tag t) task (named_by t h)

  abbrev Names : Asked → List FrameValue → Task → Device → Type 0
  Names q rs task d' = (t : ℕ) → busy_at d' t ≡ true → kept d' t ≡ Next q rs task t

  -- nothing is accepted
  stays : (q : Asked) (rs : List FrameValue) (task : Task) (d' : Device) → accepts (view q rs) ≡ false → Stay d d' → Names q rs task d'
  stays q rs task d' a s t b = rw a ((s t b).1 ∙ n t (s t b).0)

  -- and the state's commands are as they were
  same : (t : ℕ) → busy_at d t ≡ true → (busy_at d t ≡ true) × (kept d t ≡ kept d t)
  same t b = (b, refl)

  -- DMA Setup, with an Activate or without
  setup_named : (q : Queued) (task : Task) (d' : Device) → Stay d d' → Names quiet (setup_reply q ∷ activate_if q.entry.write) task d'
  setup_named q task d' s = stays quiet (setup_reply q ∷ activate_if q.entry.write) task d' (is_setup _ q.entry.write).accepted s

  -- a good one [queued-good]
  accepted_named : (f : HostReg) → f.command_bit ≡ true → (eqb f.command 0x60 || eqb f.command 0x61) ≡ true → f.task ≡ task_in (entry_for f).echo → (rs : List FrameValue) → accepts (view (register_asks f) rs) ≡ true
      → Names (register_asks f) rs f.task (accepted_by d (record { tag = tag_asked f; entry = entry_for f }))
  unfolding accepted_by view
  accepted_named f c e i rs a t b =
      let u : ℕ = tag_asked f in
      let d' : Device = accepted_by d (record { tag = u; entry = entry_for f }) in
      let l = busy_below d'.status.outstanding t b in
      rw a
      (⊎_elim
      (λ (y : eqb u t ≡ true).
      let z = eqb-true u t y in
      rw y (ap (kept d') (sym z) ∙ ap (λ (x : Entry). task_in x.echo) (placed_same d.entries u (entry_for f) (tag_small f.task.count)) ∙ sym i))
      (λ (y : eqb u t ≡ false).
      let z : t ≡ u → ⊥ = λ q. eqb-false u t y (sym q) in
      rw y (ap (λ (x : Entry). task_in x.echo) (placed_other d.entries u (entry_for f) t l z) ∙ n t (rw (ne_eqb t u z) at (sym (bit_with d.status.outstanding u t (tag_small f.task.count) l) ∙ b))))
      (tested (eqb u t)))

  -- an act whose replies accept nothing
  by_act : (q : Asked) (part : List ℕ) (task : Task) (a : Act) → accepts (view q (replies_of (state_shown d) part a)) ≡ false → Stay d (after_of d a) → Names q (replies_of (state_shown d) part a) task (after_of d a)
  by_act q part task a e s = stays q (replies_of (state_shown d) part a) task (after_of d a) e s

  -- a host frame that is not turned down
  heard_named : (x m b : List ℕ) {y : FrameRead} {a : Act} → ReadFits y → by.Heard (facts_of d (lent (host_frame x) m b)) y a → Names (frame_asks y) (replies_of (state_shown d) [] a) (frame_task y) (after_of d a)
  unfolding view some collect replies_of ReadFits after_of halt_with reset_held released_device accepted_by unhalted_device zeroed_if
  heard_named x m b {y} {a} t (by.srst f c s) = by_act (frame_asks y) [] (frame_task y) a (rw c refl) (empty_stay d (after_of d a) refl)
  heard_named x m b {y} {a} t (by.release f c s z) = by_act (frame_asks y) [] (frame_task y) a (rw c refl) same
  heard_named x m b {y} {a} t (by.nothing f c s z) = by_act (frame_asks y) [] (frame_task y) a (rw c refl) same
  heard_named x m b {y} {a} t (by.rule1 f c z) = by_act (frame_asks y) [] (frame_task y) a (and-false _) same
  heard_named x m b {y} {a} t (by.rule2 f c z u) = by_act (frame_asks y) [] (frame_task y) a (and-false _) (empty_stay d (after_of d a) refl)
  heard_named x m b {y} {a} t (by.rule3 f c z u v) = by_act (frame_asks y) [] (frame_task y) a (and-false _) (empty_stay d (after_of d a) refl)
  heard_named x m b {y} {a} t (by.rule4 f c z u v) = accepted_named f c.command c.kind (sym (echo_task f.task t)) (replies_of (state_shown d) [] a) (rw (c.command, c.kind) refl)
  heard_named x m b {y} {a} t (by.other f c z) = by_act (frame_asks y) [] (frame_task y) a (unqueued f c.kind (replies_of (state_shown d) [] a)) (other_stay d z)
  heard_named x m b {y} {a} t (by.due l p q z) = by_act (frame_asks y) [] (frame_task y) a (is_brought l (not (move_of d.status (phase_entry d) l).last)).accepted (moved_stay d l p)
  heard_named x m b {y} {a} t (by.bist z) = by_act (frame_asks y) [] (frame_task y) a refl same

  -- a device event that is taken
  own_named : (m b : List ℕ) {c : Call} {a : Act} → Typed c → by.Own (facts_of d (lent c m b)) c a → Names (call_asks c) (replies_of (state_shown d) (part_of a m) a) (call_task c) (after_of d a)
  unfolding view some collect replies_of after_of opened_for failed_by halt_with renewed_device released_device reset_held counted_by
  own_named m b {c} {a} y (by.opened t g s o p e) = setup_named (record { tag = t; entry = entry_of d.entries t }) (call_task c) (after_of d a) same
  own_named m b {c} {a} y (by.sent g v s p r) = by_act (call_asks c) (part_of a m) (call_task c) a refl (moved_stay d 8192 p)
  own_named m b {c} {a} y (by.finished set g s p e r) = by_act (call_asks c) (part_of a m) (call_task c) a refl (finished_stay d set y.1)
  own_named m b {c} {a} y (by.failed t e x g s o p v) = by_act (call_asks c) (part_of a m) (call_task c) a refl (empty_stay d (after_of d a) refl)
  own_named m b {c} {a} y (by.renewed g s) = by_act (call_asks c) (part_of a m) (call_task c) a refl (empty_stay d (after_of d a) refl)
  own_named m b y _ = λ u o. n u o

  -- a call that is taken
  ruled_named : (m b : List ℕ) {c : Call} {a : Act} → Typed c → by.Ruled (facts_of d (lent c m b)) c (Ok a) → Names (call_asks c) (replies_of (state_shown d) (part_of a m) a) (call_task c) (after_of d a)
  ruled_named m b {c} {a} t (by.host f _ g v s y) =
      subst (λ (p : List ℕ). Names (call_asks c) (replies_of (state_shown d) p a) (call_task c) (after_of d a)) (heard_unsent (facts_of d (lent (host_frame f) m b)) m y) (heard_named f m b (read_fits f t.0) y)
  ruled_named m b t (by.own o) = own_named m b t o

  -- what the history tells of an event, from what was asked and sent
  told_next : (x : Event) (rs : List FrameValue) → Read x rs → (q : Asked) → asks x ≡ q → (t : ℕ) → named_by t (x ∷ h) ≡ Next q rs (call_task x.call) t
  unfolding named_by
  told_next x rs r q e t = ap (λ (y : Seen). pick (accepts y && eqb y.asks.tag t) (call_task x.call) (named_by t h)) (read_seen x rs r q e)

  -- every call
  pub named_step : (l : Lent) → Typed l.call → SizedRecord d → Named (step d l).state (event_of d l ∷ h)
  unfolding view some collect
  named_step l t s =
      by_decided d l (λ (y : Step). Read (event_by l y) y.frames → Named y.state (event_by l y ∷ h))
      (λ r k u o. n u o ∙ sym (told_next (event_by l (step_by d l (Err r))) [] k quiet refl u))
      (λ a i k u o. ruled_named l.medium l.buffer t i u o ∙ sym (told_next (event_by l (step_by d l (Ok a))) (step_by d l (Ok a)).frames k (call_asks l.call) refl u))
      (read_step d l t s)

-- power-on: nothing is outstanding
pub named_power : (s : Settings) → Named (power_on s).state []
unfolding fresh_device
named_power s = from_power (λ (d : Device). Named d []) s (λ t b. absurd (no_busy 0 t refl b)) (λ t b. absurd (no_busy 0 t refl b))
