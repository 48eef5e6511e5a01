-- Over every call the counters go on telling the events since their zeroing.
use Rattle.std.proofs.Common.{Ok, Err, ◌≡◌, refl, ap, Bool, false, List, ◌∷◌, ℕ, length}
use Rattle.bits.specs.Laid.{overlay}
use Rattle.rules.specs.Call.{Call}
use Rattle.rules.specs.Medium.{part_of}
use Rattle.rules.specs.declared.acts.Act.{Act}
use Rattle.rules.proofs.Ruled as by
use Rattle.replies.specs.Replies.{replies_of}
use Rattle.device.specs.Lent.{Lent, lent}
use Rattle.device.specs.FactsOf.{facts_of}
use Rattle.device.specs.Step.{Step, state_shown, step_by, step, bytes_of}
use Rattle.device.specs.declared.state.Device.{Device}
use Rattle.history.specs.Event.{Event}
use Rattle.history.specs.Reading.{uncounted, call_raises, call_zeroes}
use Rattle.history.specs.Replied.{some, is_pio, paged}
use Rattle.history.specs.Run.{result, done, event}
use Rattle.history.proofs.Frames.{Read, read_frames}
use Rattle.history.proofs.Decided.{by_decided}
use Rattle.history.proofs.Tally.{Counting, tells}
use Rattle.history.proofs.Impact.{Reckons, unchanged}
use Rattle.history.proofs.Hearing.{pio_in}
use Rattle.history.proofs.Hosted.{host_goes}
use Rattle.history.proofs.Own.{own_goes}

-- what the outside sees of a call that leaves s behind
abbrev pub event_by : Lent → Step → Event
event_by l s = record { call = l.call; medium = l.medium; buffer = l.buffer; refusal = s.refusal; len = length (bytes_of s); filled = overlay (bytes_of s) l.buffer; left = s.medium }

-- and of a call of the definitions
abbrev pub event_of : Device → Lent → Event
event_of d l = event (done l (result d l))

-- what must be known of the replies: cut and read, they are the frames that the step sends
abbrev pub Replies : Device → Lent → Type 0
Replies d l = Read (event_of d l) (step d l).frames

-- a taken call
ruled_reckons : (d : Device) (m b : List ℕ) {c : Call} {a : Act} → by.Ruled (facts_of d (lent c m b)) c (Ok a) → Reckons d c (pio_in (replies_of (state_shown d) (part_of a m) a)) a
ruled_reckons d m b (by.host f a g w s h) = (host_goes d f m b g h).heard.values
ruled_reckons d m b (by.own o) = (own_goes d m b o).reckons

-- every call, refused or taken: the counters go on telling the history
pub counting_step : (d : Device) (l : Lent) (h : List Event) → Replies d l → Counting d h → Counting (step d l).state (event_of d l ∷ h)
counting_step d l h q i =
    by_decided d l (λ (s : Step). Read (event_by l s) s.frames → Counting s.state (event_by l s ∷ h))
    (λ r _. tells d.values (event_by l (step_by d l (Err r))) h i false uncounted d.values (record { zeroed = refl; raised = λ k u. refl }) (unchanged d.values))
    (λ a y p.
    let s : Step = step_by d l (Ok a) in
    let e : Event = event_by l s in
    let same : paged e ≡ pio_in s.frames = ap (some is_pio) (read_frames e s.frames p) in
    let k : Reckons d l.call (pio_in s.frames) a = ruled_reckons d l.medium l.buffer y in
    tells d.values e h i (call_zeroes (pio_in s.frames) l.call) (λ r. call_raises r l.call) s.state.values (record { zeroed = ap (λ (b : Bool). call_zeroes b l.call) same; raised = λ r u. refl }) k)
    q
