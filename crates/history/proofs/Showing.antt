-- Every page 10h that is sent tells the record that the history before it tells.
use Rattle.std.proofs.Common.{Ok, ◌≡◌, refl, sym, ap, subst, ◌∙◌, Bool, true, false, List, [], append-nil, ℕ, arith, length, drop, take_at}
use mathlib.Core.Bool.{false≢true}
use Rattle.bits.specs.Laid.{overlay}
use Rattle.bits.proofs.Picks.{pick_yes, and_left, and_right}
use Rattle.frames.proofs.EmitLaws.{emitted_done}
use Rattle.frames.specs.declared.shared.Task.{Task}
use Rattle.frames.specs.Write.{FrameValue}
use Rattle.frames.specs.declared.shapes.HostReg.{HostReg}
use Rattle.pages.specs.Page10.{page10, fits10, read_log}
use Rattle.pages.specs.declared.page10.ErrorLog.{ErrorLog}
use Rattle.pages.proofs.Trip10.{read_write}
use Rattle.rules.specs.Call.{Call, host_frame}
use Rattle.rules.specs.Decide.{page_asked}
use Rattle.rules.specs.Medium.{part_of}
use Rattle.rules.specs.declared.acts.Act.{Act}
use Rattle.rules.proofs.Ruled as by
use Rattle.replies.specs.Replies.{log_of, log_replies, page10_of, replies_of}
use Rattle.device.specs.Device.{contradictory_device}
use Rattle.device.specs.Lent.{Lent, lent, Typed}
use Rattle.device.specs.FactsOf.{facts_of}
use Rattle.device.specs.Step.{Step, state_shown, step_by}
use Rattle.device.specs.declared.state.Device.{Device}
use Rattle.rules.proofs.Ruled.{heard_unsent}
use Rattle.device.proofs.Fitting.{record_fits}
use Rattle.device.proofs.Sized.{SizedRecord}
use Rattle.rules.specs.OtherRule.{asks_counters}
use Rattle.history.specs.Event.{Event}
use Rattle.history.specs.FrameReading.{frame_asks}
use Rattle.history.specs.Logs.{reads_log}
use Rattle.history.specs.Reading.{call_asks}
use Rattle.history.specs.Replied.{FrameRead, some, is_pio, paged, page}
use Rattle.history.specs.Seen.{seen}
use Rattle.history.specs.Logged.{log_by, TellsHalt}
use Rattle.history.proofs.Counts.{event_by, event_of}
use Rattle.history.proofs.Decided.{by_decided}
use Rattle.history.proofs.Views.{page_in}
use Rattle.history.proofs.Frames.{Read, read_frames, read_step}
use Rattle.history.proofs.Frames as frames
use Rattle.history.proofs.Hearing.{pio_in, reads_counters, reads_none}
use Rattle.history.proofs.Own.{own_goes}

-- a page that can be written is read as what it was made of
reads_back : (f : ErrorLog) → fits10 f ≡ true → read_log (page10 f) ≡ Ok f
reads_back f fit =
    let s : List ℕ = page10 f in
    ap read_log (sym (take_at s (drop (length s) s) (length s) refl)) ∙ read_write f s (overlay s s) (length s) (emitted_done (fits10 f) s s (length s) (overlay s s) fit (omega arith) refl refl)

-- page 10h in its replies, with or without the sweep
pub ten_page : (on : Bool) (task : Task) (l : List ℕ) → page_in (log_replies on task l) ≡ l
unfolding some
ten_page on task l = grind (arith, append-nil {A = ℕ})

-- a read of page 11h is none of page 10h
not_ten : (h : HostReg) → h.command_bit ≡ true → asks_counters (page_asked h) ≡ true → reads_log 0x10 h ≡ true → ⊥
not_ten h c p r =
    let b = reads_counters h c p in
    grind arith

module _ (d : Device) where
  -- the page sent to a host frame that reads page 10h is the record's
  heard_page : (x m b : List ℕ) {f : FrameRead} {a : Act} → by.Heard (facts_of d (lent (host_frame x) m b)) f a → pio_in (replies_of (state_shown d) [] a) ≡ true → (frame_asks f).reads 0x10 ≡ true
      → page_in (replies_of (state_shown d) [] a) ≡ page10_of d.errors
  unfolding replies_of some
  heard_page x m b (by.other f c (by.page10 y z)) p q = ten_page d.status.halted f.task (page10_of d.errors)
  heard_page x m b (by.other f c (by.page11 y z v)) p q = absurd (not_ten f c.command v q)
  heard_page x m b (by.other f c (by.identity y z v)) p q = absurd (false≢true (sym (reads_none f v 0x10) ∙ q))
  heard_page x m b (by.due l y z v) p q = absurd (false≢true q)
  heard_page x m b _ p q = absurd (false≢true p)

  -- a taken call that reads page 10h and is answered with a page
  ruled_page : (m b : List ℕ) {c : Call} {a : Act} → by.Ruled (facts_of d (lent c m b)) c (Ok a) → pio_in (replies_of (state_shown d) (part_of a m) a) ≡ true → (call_asks c).reads 0x10 ≡ true
      → (contradictory_device d ≡ false) × (page_in (replies_of (state_shown d) (part_of a m) a) ≡ page10_of d.errors)
  ruled_page m b {c} {a} (by.host f _ g v s y) p q = (
    g,
    subst (λ (l : List ℕ). pio_in (replies_of (state_shown d) l a) ≡ true → page_in (replies_of (state_shown d) l a) ≡ page10_of d.errors) (heard_unsent (facts_of d (lent (host_frame f) m b)) m y) (λ o. heard_page f m b y o q) p,
  )
  ruled_page m b (by.own o) p q = absurd (false≢true (sym (own_goes d m b o).replies.pageless ∙ p))

-- every call: a page 10h in its replies tells the record
pub told_step : (d : Device) (l : Lent) (h : List Event) → Typed l.call → SizedRecord d → log_by h ≡ log_of d.errors → (seen (event_of d l)).delivers 0x10 ≡ true → TellsHalt (event_of d l) h
unfolding seen
told_step d l h t s k =
    by_decided d l (λ (y : Step). Read (event_by l y) y.frames → (seen (event_by l y)).delivers 0x10 ≡ true → TellsHalt (event_by l y) h) (λ r _ z. absurd (false≢true z))
    (λ a o r u.
    let x : Event = event_by l (step_by d l (Ok a)) in
    let rs : List FrameValue = (step_by d l (Ok a)).frames in
    let v = ruled_page d l.medium l.buffer o
    (sym (ap (some is_pio) (read_frames x rs r)) ∙ and_right ((call_asks l.call).reads 0x10) (paged x) u) (and_left ((call_asks l.call).reads 0x10) (paged x) u) in
    let fit : fits10 (log_of d.errors) ≡ true = record_fits d s v.0 in
    let e : page x ≡ page10 (log_by h) =
    frames.read_page x rs r ∙ v.1 ∙ pick_yes (fits10 (log_of d.errors)) (page10 (log_of d.errors)) [] fit ∙ ap page10 (sym k) in
    record { bytes = e; fields = ap read_log e ∙ subst (λ (f : ErrorLog). read_log (page10 f) ≡ Ok f) (sym k) (reads_back (log_of d.errors) fit) })
    (read_step d l t s)
