-- The error record of the state is what the history tells of the last error: what each call does to it.
use Rattle.std.proofs.Common.{Ok, Err, ◌≡◌, refl, ap₂, subst, ◌∙◌, true, false, not, List, [], ◌∷◌, map, ℕ, ◌<◌, ◌^◌, arith, eqb, ltb}
use mathlib.Core.Bool.{and-false}
use Rattle.bits.specs.Bit.{bit_in}
use Rattle.frames.specs.declared.shared.Task.{Task}
use Rattle.frames.specs.Write.{FrameValue}
use Rattle.pages.specs.declared.page10.ErrorLog.{ErrorLog}
use Rattle.device_state.specs.State.{task_in, echo_of}
use Rattle.device_state.specs.Table.{entry_of}
use Rattle.device_state.specs.declared.shapes.Echo.{Echo}
use Rattle.device_state.specs.declared.shapes.Settings.{Settings}
use Rattle.device_state.proofs.EchoLaws.{echo_task}
use Rattle.rules.specs.Call.{Call, host_frame}
use Rattle.rules.specs.Act.{failing}
use Rattle.rules.specs.Medium.{part_of}
use Rattle.rules.specs.Positions.{move_of}
use Rattle.rules.specs.Tests.{outside}
use Rattle.rules.specs.declared.acts.Queued.{Queued}
use Rattle.rules.specs.declared.acts.Act.{Act}
use Rattle.rules.proofs.Ruled as by
use Rattle.replies.specs.Replies.{page10_of, log_of, setup_reply, log_replies, activate_if, replies_of}
use Rattle.device.specs.Device.{contradictory_device, power_on, fresh_device}
use Rattle.device.specs.Lent.{Lent, lent, Typed}
use Rattle.device.specs.After.{after_of, halt_with, reset_held, released_device, accepted_by, unhalted_device, zeroed_if, moved_by, opened_for, finished_by, failed_by, renewed_device, counted_by}
use Rattle.device.specs.DataDue.{phase_entry}
use Rattle.device.specs.FactsOf.{facts_of}
use Rattle.device.specs.Step.{Step, state_shown, step_by, step}
use Rattle.device.specs.declared.state.Device.{Device}
use Rattle.device.proofs.Busy.{range_within}
use Rattle.rules.proofs.Ruled.{heard_unsent}
use Rattle.device.proofs.Entering.{capacity_most}
use Rattle.device.proofs.Fitting.{ReadFits, read_fits}
use Rattle.device.proofs.Keeping.{settings_good}
use Rattle.device.proofs.Sized.{SizedRecord}
use Rattle.history.specs.Event.{Event}
use Rattle.history.specs.FrameAsks.{Asked, quiet, register_asks, data_asks}
use Rattle.history.specs.FrameReading.{frame_asks}
use Rattle.history.specs.Reading.{call_asks}
use Rattle.history.specs.Asked.{asks}
use Rattle.history.specs.Replied.{FrameRead, some, register_in, collect}
use Rattle.history.specs.Seen.{Seen, seen}
use Rattle.history.specs.Fates.{total}
use Rattle.history.specs.Waits.{waits}
use Rattle.history.specs.Logged.{first_error, frame_log, call_log, log_next, blank_log, log_by}
use Rattle.history.proofs.Views.{read_in, view, is_setup, is_brought}
use Rattle.history.proofs.Frames.{Read, read_frames, read_seen, read_step}
use Rattle.history.proofs.Changes.{halted_empty, busy_calm}
use Rattle.history.proofs.Counts.{event_by, event_of}
use Rattle.history.proofs.Decided.{by_decided}
use Rattle.history.proofs.Naming.{Named}
use Rattle.history.proofs.Soundness.{from_power}

-- the bytes of a command with a failing sector in them
failing_task : (e : Echo) (sector : ℕ) (t : Task) → sector < 2 ^ 48 → task_in e ≡ t → task_in (failing e sector) ≡ record { lba = sector; device = t.device; count = t.count }
unfolding task_in failing echo_of
failing_task e sector t l k = grind arith

-- a sector of an outstanding command's range has 48 bits
sector_small : (d : Device) (t sector : ℕ) → contradictory_device d ≡ false → bit_in 32 d.status.outstanding t ≡ true → outside (entry_of d.entries t) sector ≡ false → sector < 2 ^ 48
sector_small d t sector g o w =
    let e = entry_of d.entries t in
    let b = range_within d t g o in
    let c = capacity_most d.settings (settings_good d g) in
    grind arith

-- the error byte of the first 34h sent
abbrev error_of : List FrameValue → ℕ
error_of rs = first_error (collect register_in (read_in rs))

module _ (d : Device) (h : List Event) (w : waits (map seen h) ≡ d.status.halted) (u : ltb 0 (total (map seen h)) ≡ not (eqb d.status.outstanding 0)) (n : Named d h) (k : log_by h ≡ log_of d.errors) where
  -- the record next, from what was asked and sent, and what the call leaves to be read if it raises an error
  abbrev Next : Asked → List FrameValue → ErrorLog → ErrorLog
  Next q rs r = log_next (view q rs) (map seen h) r (log_by h)

  -- nothing is raised or reset
  stays : (q : Asked) (rs : List FrameValue) (r : ErrorLog) → (view q rs).bad ≡ false → (view q rs).fails ≡ false → (view q rs).asks.resets ≡ false → Next q rs r ≡ log_of d.errors
  stays q rs r a b c = rw (a, b, c) k

  -- DMA Setup, with an Activate or without
  setup_logged : (q : Queued) (r : ErrorLog) → Next quiet (setup_reply q ∷ activate_if q.entry.write) r ≡ log_of d.errors
  setup_logged q r = let i = is_setup _ q.entry.write in stays quiet (setup_reply q ∷ activate_if q.entry.write) r i.bad i.fails i.resets

  -- something is outstanding, and so it is not halted
  calm : contradictory_device d ≡ false → eqb d.status.outstanding 0 ≡ false → d.status.halted ≡ false
  calm g y = let z = halted_empty d g in grind arith

  -- a host frame that is not turned down
  heard_logged : (x m b : List ℕ) {f : FrameRead} {a : Act} → contradictory_device d ≡ false → ReadFits f → by.Heard (facts_of d (lent (host_frame x) m b)) f a
      → Next (frame_asks f) (replies_of (state_shown d) [] a) (frame_log (error_of (replies_of (state_shown d) [] a)) f) ≡ log_of (after_of d a).errors
  unfolding view some collect replies_of ReadFits after_of halt_with reset_held released_device accepted_by unhalted_device zeroed_if moved_by move_of
  heard_logged x m b g t (by.srst f c s) = rw (c, s) refl
  heard_logged x m b g t (by.release f c s y) = rw (c, s) k
  heard_logged x m b g t (by.nothing f c s y) = rw (c, s) k
  heard_logged x m b g t (by.rule1 f c y) = rw (c.command, c.kind, w, y) k
  heard_logged x m b g t (by.rule2 f c y z) = rw (c.command, c.kind, w, y, echo_task f.task t) refl
  heard_logged x m b g t (by.rule3 f c y z v) = rw (c.command, c.kind, w, y, echo_task f.task t) refl
  heard_logged x m b g t (by.rule4 f c y z v) = rw c.command k
  heard_logged x m b g t (by.other f c (by.halted y)) = rw (c.command, c.kind, w, y, and-false _) k
  heard_logged x m b g t (by.other f c (by.busy y)) = rw (c.command, c.kind, w, calm g y, u, y, echo_task f.task t) refl
  heard_logged x m b g t (by.other f c (by.page10 y p)) = stays (register_asks f) (log_replies d.status.halted f.task (page10_of d.errors)) _ (let b = c.command in grind arith) (let b = c.command in grind arith) (let b = c.command in grind arith)
  heard_logged x m b g t (by.other f c (by.neither y z)) = rw (c.command, c.kind, w, y, u, z) k
  heard_logged x m b g t (by.other f c _) = rw c.command k
  heard_logged x m b g t (by.due l p q y) = let on = not (move_of d.status (phase_entry d) l).last in let i = is_brought l on in stays (data_asks l) (activate_if on) _ i.bad i.fails i.resets
  heard_logged x m b g t (by.bist y) = k

  -- a device event that is taken
  own_logged : (m b : List ℕ) {c : Call} {a : Act} → by.Own (facts_of d (lent c m b)) c a
      → Next (call_asks c) (replies_of (state_shown d) (part_of a m) a) (call_log (error_of (replies_of (state_shown d) (part_of a m) a)) h c) ≡ log_of (after_of d a).errors
  unfolding view some collect replies_of after_of opened_for moved_by finished_by failed_by halt_with renewed_device released_device reset_held counted_by move_of
  own_logged m b (by.opened t g s o p e) = setup_logged (record { tag = t; entry = entry_of d.entries t }) _
  own_logged m b (by.failed t e x g s o y v) = rw (w, busy_calm d g t o, failing_task _ x _ (sector_small d t x g o v) (n t o)) refl
  own_logged m b (by.renewed g s) = refl
  own_logged m b _ = k

  -- a call that is taken
  ruled_logged : (m b : List ℕ) {c : Call} {a : Act} → Typed c → by.Ruled (facts_of d (lent c m b)) c (Ok a)
      → Next (call_asks c) (replies_of (state_shown d) (part_of a m) a) (call_log (error_of (replies_of (state_shown d) (part_of a m) a)) h c) ≡ log_of (after_of d a).errors
  ruled_logged m b {c} {a} t (by.host f _ g v s y) =
      subst (λ (p : List ℕ). Next (call_asks c) (replies_of (state_shown d) p a) (call_log (error_of (replies_of (state_shown d) p a)) h c) ≡ log_of (after_of d a).errors)
      (heard_unsent (facts_of d (lent (host_frame f) m b)) m y) (heard_logged f m b g (read_fits f t.0) y)
  ruled_logged m b t (by.own o) = own_logged m b o

  -- what the history tells of an event, from what was asked and sent
  told_next : (x : Event) (rs : List FrameValue) → Read x rs → (q : Asked) → asks x ≡ q → log_by (x ∷ h) ≡ Next q rs (call_log (error_of rs) h x.call)
  unfolding log_by
  told_next x rs r q e =
      ap₂ (λ (y : Seen) (fs : List FrameRead). log_next y (map seen h) (call_log (first_error (collect register_in fs)) h x.call) (log_by h)) (read_seen x rs r q e) (read_frames x rs r)

  -- every call
  pub logged_step : (l : Lent) → Typed l.call → SizedRecord d → log_by (event_of d l ∷ h) ≡ log_of (step d l).state.errors
  unfolding view some collect
  logged_step l t s =
      by_decided d l (λ (y : Step). Read (event_by l y) y.frames → log_by (event_by l y ∷ h) ≡ log_of y.state.errors)
      (λ r z. told_next (event_by l (step_by d l (Err r))) [] z quiet refl ∙ k)
      (λ a o z. told_next (event_by l (step_by d l (Ok a))) (step_by d l (Ok a)).frames z (call_asks l.call) refl ∙ ruled_logged l.medium l.buffer t o)
      (read_step d l t s)

-- power-on: a blank record
pub logged_power : (s : Settings) → log_by [] ≡ log_of (power_on s).state.errors
unfolding log_by fresh_device
logged_power s = from_power (λ (d : Device). blank_log ≡ log_of d.errors) s refl refl
