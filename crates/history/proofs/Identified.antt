-- Every page of IDENTIFY DEVICE that is sent tells depth and capacity.
use Rattle.std.proofs.Common.{Ok, ◌≡◌, sym, ap, subst, ◌∙◌, true, false, ◌&&◌, List, [], ℕ, is_none}
use mathlib.Core.Bool.{false≢true}
use Rattle.bits.proofs.Picks.{pick_yes, and_left, and_right}
use Rattle.frames.specs.Write.{FrameValue}
use Rattle.device_state.specs.declared.shapes.Settings.{Settings}
use Rattle.identity.specs.Words.{fits_identity}
use Rattle.identity.specs.Page.{identity_page}
use Rattle.identity.specs.Read.{read_identity}
use Rattle.identity.proofs.Trip.{read_identified}
use Rattle.rules.specs.Call.{Call, host_frame}
use Rattle.rules.specs.Medium.{part_of}
use Rattle.rules.specs.declared.acts.Act.{Act}
use Rattle.rules.proofs.Ruled as by
use Rattle.rules.proofs.Ruled.{heard_unsent}
use Rattle.replies.specs.Replies.{identity_of, replies_of}
use Rattle.device.specs.Device.{contradictory_device}
use Rattle.device.specs.Lent.{Lent, lent, Typed}
use Rattle.device.specs.FactsOf.{facts_of}
use Rattle.device.specs.Step.{Step, identity_told, state_shown, step_by, step}
use Rattle.device.specs.declared.state.Device.{Device}
use Rattle.device.proofs.Keeping.{identity_fits}
use Rattle.device.proofs.Sized.{SizedRecord}
use Rattle.device.proofs.Zeros.{zeros}
use Rattle.history.specs.Event.{taken}
use Rattle.history.specs.Asked.{asks}
use Rattle.history.specs.FrameReading.{frame_asks}
use Rattle.history.specs.Reading.{call_asks}
use Rattle.history.specs.Replied.{FrameRead, some, is_pio, paged, page}
use Rattle.history.specs.IdentityTold.{TellsIdentity}
use Rattle.history.proofs.Counts.{event_by, event_of}
use Rattle.history.proofs.Decided.{by_decided}
use Rattle.history.proofs.Views.{page_in}
use Rattle.history.proofs.Frames.{Read, read_frames, read_step}
use Rattle.history.proofs.Frames as frames
use Rattle.history.proofs.Hearing.{pio_in, ten_unidentified, eleven_unidentified}
use Rattle.history.proofs.Own.{own_goes}
use Rattle.history.proofs.Showing.{ten_page}
use Rattle.history.proofs.Soundness.{by_power, Sound}

-- the page of settings in bounds
pub identity_is : (d : Device) → contradictory_device d ≡ false → identity_of (identity_told d.settings) ≡ identity_page (identity_told d.settings)
identity_is d g = pick_yes (fits_identity (identity_told d.settings)) (identity_page (identity_told d.settings)) [] (identity_fits d g)

module _ (d : Device) where
  -- the page sent to a host frame that is IDENTIFY DEVICE
  heard_page : (x m b : List ℕ) {f : FrameRead} {a : Act} → by.Heard (facts_of d (lent (host_frame x) m b)) f a → pio_in (replies_of (state_shown d) [] a) ≡ true → (frame_asks f).identifies ≡ true
      → page_in (replies_of (state_shown d) [] a) ≡ identity_of (identity_told d.settings)
  unfolding replies_of some
  heard_page x m b (by.other f c (by.identity y z v)) p q = ten_page false f.task (identity_of (identity_told d.settings))
  heard_page x m b (by.other f c (by.page10 y v)) p q = absurd (false≢true (sym (ten_unidentified f v) ∙ q))
  heard_page x m b (by.other f c (by.page11 y z v)) p q = absurd (false≢true (sym (eleven_unidentified f v) ∙ q))
  heard_page x m b (by.due l y z v) p q = absurd (false≢true q)
  heard_page x m b _ p q = absurd (false≢true p)

  -- a taken call that is IDENTIFY DEVICE and is answered with a page
  ruled_page : (m b : List ℕ) {c : Call} {a : Act} → by.Ruled (facts_of d (lent c m b)) c (Ok a) → pio_in (replies_of (state_shown d) (part_of a m) a) ≡ true → (call_asks c).identifies ≡ true
      → (contradictory_device d ≡ false) × (page_in (replies_of (state_shown d) (part_of a m) a) ≡ identity_of (identity_told d.settings))
  ruled_page m b {c} {a} (by.host f _ g v s y) p q = (
    g,
    subst (λ (l : List ℕ). pio_in (replies_of (state_shown d) l a) ≡ true → page_in (replies_of (state_shown d) l a) ≡ identity_of (identity_told d.settings)) (heard_unsent (facts_of d (lent (host_frame f) m b)) m y) (λ o. heard_page f m b y o q) p,
  )
  ruled_page m b (by.own o) p q = absurd (false≢true (sym (own_goes d m b o).replies.pageless ∙ p))

-- of an event: the page that answers IDENTIFY DEVICE tells these settings
abbrev Tells : Settings → Device → Lent → Step → Type 0
Tells s d l y = (asks (event_by l y)).identifies && paged (event_by l y) ≡ true → TellsIdentity s.depth s.capacity (event_by l y)

-- every call, of the settings of the state
told_here : (d : Device) (l : Lent) → Typed l.call → SizedRecord d → Tells d.settings d l (step d l)
told_here d l t s =
    by_decided d l (λ (y : Step). Read (event_by l y) y.frames → Tells d.settings d l y) (λ r _ z. absurd (false≢true z))
    (λ a o r u.
    let x = event_by l (step_by d l (Ok a)) in
    let rs : List FrameValue = (step_by d l (Ok a)).frames in
    let v = ruled_page d l.medium l.buffer o
    (sym (ap (some is_pio) (read_frames x rs r)) ∙ and_right (call_asks l.call).identifies (paged x) u) (and_left (call_asks l.call).identifies (paged x) u) in
    let e : page x ≡ identity_page (identity_told d.settings) = frames.read_page x rs r ∙ v.1 ∙ identity_is d v.0 in
    record { bytes = e; fields = ap read_identity e ∙ read_identified (identity_told d.settings) (identity_fits d v.0) })
    (read_step d l t s)

-- with the settings of power-on: after a refused one every call is refused
pub identity_step : (s : Settings) (d : Device) (l : Lent) → Typed l.call → SizedRecord d → Sound s d → Tells s d l (step d l)
identity_step s d l t z i =
    by_power s (λ p. subst (λ (q : Settings). Tells q d l (step d l)) (i.settings p) (told_here d l t z))
    (λ n u.
    let never : taken (event_of d l) ≡ false = ap (λ (q : Device). is_none (step q l).refusal) (i.zeros n) ∙ ap is_none (zeros l) in
    absurd (false≢true (rw never at u)))
