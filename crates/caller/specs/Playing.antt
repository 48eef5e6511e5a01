-- Events played one after the other, each with any medium and any reply buffer, and the history that they are.
-- A theorem about event files alone would let through a device that loses its commands when it is lent a wrong medium or buffer: a run lends one medium and one buffer of the right lengths.
use Rattle.std.specs.Prelude.{◌≡◌, Bool, true, false, ◌+◌, List, [], ◌∷◌, ◌++◌, ℕ, Result, Err}
use Rattle.refusals.specs.declared.reasons.Refusal.{Refusal}
use Rattle.refusals.specs.declared.reasons.Refusal.TheVariants.{Contradiction}
use Rattle.device_state.specs.declared.shapes.Settings.{Settings}
use Rattle.device.specs.Lent.{lent, Gave, Typed}
use Rattle.device.specs.Sealing.{powered_of}
use Rattle.device.specs.Step.{Gives, bytes_of}
use Rattle.device.specs.declared.sealed.Sealed.{Sealed}
use Rattle.device.specs.declared.state.Device.{Device}
use Rattle.device.specs.declared.state.Outcome.{Outcome}
use Rattle.events.specs.Calls.{call_of, event_step}
use Rattle.events.specs.Lines.{line_of}
use Rattle.events.specs.Running.{step_told}
use Rattle.events.specs.declared.asked.Event.{Event}
use Rattle.history.specs.Run.{Done, done}
use Rattle.caller.specs.Continued.{Reached, Holds, Continues, Begins}

-- power-on by a settings record begins a history with its settings; out of the limit it is 1, and there is no device [events-told] [event-settings]
abbrev pub BeginsBy : Bool → Settings → Result Sealed Refusal → Type 0
BeginsBy true s r = Begins s (powered_of r)
BeginsBy false s r = r ≡ Err Contradiction

-- one event as it was played: the event, the medium and the reply buffer lent to it, and what came back
pub record Play : Type 0 where
  pub event : Event
  pub medium : List ℕ
  pub buffer : List ℕ
  pub gave : Gave

-- an event as it was played, of these four
abbrev pub play : Event → List ℕ → List ℕ → Gave → Play
play e m b g = record { event = e; medium = m; buffer = b; gave = g }

-- its call as it went in the state d
abbrev pub done_by : Device → Play → Done
done_by d p = done (lent (call_of d p.event) p.medium p.buffer) p.gave

-- those of all events, the oldest first, each in the state that the last one left
unfoldable pub dones_all : Device → List Play → List Done
dones_all d [] = []
dones_all d (p ∷ ps) = done_by d p ∷ dones_all p.gave.outcome.state ps

-- the state that they end with
unfoldable pub end_state : Device → List Play → Device
end_state d [] = d
end_state d (p ∷ ps) = end_state p.gave.outcome.state ps

-- the event's call continues every history that led to the state d [events-told]
abbrev pub PlayContinues : Device → Play → Type 0
PlayContinues d p = Continues d (lent (call_of d p.event) p.medium p.buffer) p.gave

-- what came back is what the contract of `events::play` promises in the state d; what the event hands in is of its types, as it always is
abbrev pub PlayGiven : Device → Play → Type 0
PlayGiven d p = Typed (call_of d p.event) × Gives (event_step d p.event p.medium p.buffer) p.buffer p.gave

-- one event after the other, each as R allows it in the state that the last one left
unfoldable pub EachPlay : (Device → Play → Type 0) → Device → List Play → Type 0
EachPlay R d [] = Unit
EachPlay R d (p ∷ ps) = R d p × EachPlay R p.gave.outcome.state ps

-- whatever the calls were that led to the state d: with those of these events all that is promised holds of them
abbrev pub PlaysHold : Device → List Play → Type 0
PlaysHold d ps = (s : Settings) (r : Outcome) (xs : List Done) → Reached s r xs d → Holds s r (xs ++ dones_all d ps) (end_state d ps)

-- events that continue one by one hold together [events-told]
abbrev pub PlaysContinue : Type 0
PlaysContinue = (d : Device) (ps : List Play) → EachPlay PlayContinues d ps → PlaysHold d ps

-- events of which each is as it was promised, whatever they are and whatever is lent to them, continue and hold [events-told]
abbrev pub GivenPlaysHold : Type 0
GivenPlaysHold = (d : Device) (ps : List Play) → EachPlay PlayGiven d ps → EachPlay PlayContinues d ps × PlaysHold d ps

-- the line of an event, as the event program tells it, also of one that a run does not come to and of any medium and reply buffer: the refusal, what is outstanding behind it, and the replies
abbrev pub LineTold : Bool → ℕ → Device → Play → Type 0
LineTold traced number d p =
    step_told traced number (event_step d p.event p.medium p.buffer)
    ≡ line_of traced number p.gave.outcome.refusal p.gave.outcome.state.status.outstanding (bytes_of (event_step d p.event p.medium p.buffer))

-- every event, numbered on
unfoldable pub EachTold : Bool → ℕ → Device → List Play → Type 0
EachTold traced n d [] = Unit
EachTold traced n d (p ∷ ps) = LineTold traced n d p × EachTold traced (n + 1) p.gave.outcome.state ps

-- events that are as promised have these lines [events-told]
abbrev pub GivenPlaysTold : Type 0
GivenPlaysTold = (traced : Bool) (n : ℕ) (d : Device) (ps : List Play) → EachPlay PlayGiven d ps → EachTold traced n d ps

-- behind power-on by a settings record: all that is promised holds of these events, with its settings; out of the limit it is 1, and there is no device [events-told] [event-settings]
abbrev pub HeldBy : Bool → Settings → Outcome → List Play → Type 0
HeldBy true s r ps = Holds s r (dones_all r.state ps) (end_state r.state ps)
HeldBy false s r ps = r ≡ powered_of (Err Contradiction)
