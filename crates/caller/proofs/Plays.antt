-- Events played one after the other are a faithful history, whatever they are and whatever is lent to them.
use Rattle.std.proofs.Common.{append-nil, append_assoc, ◌≡◌, refl, sym, subst, Bool, true, false, List, [], ◌∷◌, ◌++◌, ℕ, zero, suc, ◌+◌, ◌<◌, arith, get_or, replicate, unwrap_or, Result, Err}
use Rattle.bits.specs.Little.{Bytes}
use Rattle.bits.specs.Pick.{pick}
use Rattle.refusals.specs.declared.reasons.Refusal.{Refusal}
use Rattle.refusals.specs.declared.reasons.Refusal.TheVariants.{Contradiction}
use Rattle.device_state.specs.declared.shapes.Settings.{Settings}
use Rattle.device.specs.DataDue.{data_due}
use Rattle.device.specs.Device.{power_on}
use Rattle.device.specs.Lent.{lent, Typed}
use Rattle.device.specs.Sealing.{powered_of}
use Rattle.device.specs.declared.sealed.Sealed.{Sealed}
use Rattle.device.specs.declared.state.Device.{Device}
use Rattle.device.specs.declared.state.Outcome.{Outcome}
use Rattle.device.proofs.Kept.{powered_once}
use Rattle.device.proofs.Typing.{none_typed, frame_typed, set_typed, error_typed}
use Rattle.events.specs.Settings.{in_limit}
use Rattle.events.specs.Grammar.{event_bytes, IsShaped, Fits}
use Rattle.events.specs.declared.asked.Event.{Event}
use Rattle.events.specs.declared.asked.Event.TheVariants.{OfDevice, HostData, HostRegister, Bist}
use Rattle.rules.specs.declared.event.DeviceEvent.TheVariants.{FinishTags, MediaError}
use Rattle.events.specs.HostData.{data_frame, host_data_frame}
use Rattle.events.specs.Start.{start_of}
use Rattle.events.specs.Calls.{call_of}
use Rattle.caller.specs.Playing.{Play, BeginsBy, done_by, dones_all, end_state, PlayContinues, PlayGiven, EachPlay, PlaysContinue, GivenPlaysHold, EachTold, GivenPlaysTold, HeldBy}
use Rattle.caller.specs.Continued.{Holds}
use Rattle.history.specs.Run.{Done}
use Rattle.caller.proofs.Continuing.{holds, begins, continues_given}

-- ---- the arguments of an event's call are of their types
same_bytes : (n b i : ℕ) → b < 256 → get_or (replicate n b) i 0 < 256
same_bytes zero b i h = omega arith
same_bytes (suc n) b zero h = h
same_bytes (suc n) b (suc i) h = same_bytes n b i h

pub data_bytes : (n b : ℕ) → b < 256 → Bytes (data_frame n b)
unfolding data_frame
data_bytes n b h zero = omega arith
data_bytes n b h (suc zero) = omega arith
data_bytes n b h (suc (suc zero)) = omega arith
data_bytes n b h (suc (suc (suc zero))) = omega arith
data_bytes n b h (suc (suc (suc (suc i)))) = same_bytes n b i h

pub typed_event : (d : Device) (e : Event) → Fits e → Typed (call_of d e)
unfolding event_bytes IsShaped call_of
typed_event d (OfDevice (FinishTags tags)) f = set_typed tags f.0
typed_event d (OfDevice (MediaError tag error sector)) f = error_typed error (f.1 2)
typed_event d (OfDevice event) f = none_typed
typed_event d (HostData b) f = frame_typed (host_data_frame d b) (data_bytes (unwrap_or (data_due d) 4) b (f.1 1))
typed_event d (HostRegister frame) f = frame_typed frame f.1
typed_event d (Bist frame) f = frame_typed frame f.1

-- ---- one event continues
pub play_continues : (d : Device) (p : Play) → PlayGiven d p → PlayContinues d p
play_continues d p h = continues_given d (lent (call_of d p.event) p.medium p.buffer) p.gave h.0 h.1

-- ---- and so do they all
each_continues : (d : Device) (ps : List Play) → EachPlay PlayGiven d ps → EachPlay PlayContinues d ps
unfolding EachPlay
each_continues d [] h = tt
each_continues d (p ∷ ps) h = (play_continues d p h.0, each_continues p.gave.outcome.state ps h.1)

pub plays_continue : PlaysContinue
unfolding EachPlay dones_all end_state
plays_continue d [] h s r xs q = subst (λ (ys : List Done). Holds s r ys d) (sym (append-nil xs)) (holds s r xs d q)
plays_continue d (p ∷ ps) h s r xs q =
    subst (λ (ys : List Done). Holds s r ys (end_state p.gave.outcome.state ps)) (append_assoc xs (done_by d p ∷ []) (dones_all p.gave.outcome.state ps))
    (plays_continue p.gave.outcome.state ps h.1 s r (xs ++ done_by d p ∷ []) (h.0 s r xs q).reached)

pub plays_given : GivenPlaysHold
plays_given d ps h = let e = each_continues d ps h in (e, plays_continue d ps e)

pub plays_told : GivenPlaysTold
unfolding EachPlay EachTold
plays_told traced n d [] h = tt
plays_told traced n d (p ∷ ps) h = (rw (h.0.1.refusal, h.0.1.state) refl, plays_told traced (n + 1) p.gave.outcome.state ps h.1)

-- ---- from power-on
begins_in : (b : Bool) (s : Settings) (r : Result Sealed Refusal) → powered_of r ≡ pick b (power_on s) (powered_of (Err Contradiction)) → BeginsBy b s r
begins_in true s r h = begins s (powered_of r) h
begins_in false s r h = powered_once r (Err Contradiction) h

pub begins_by : (s : Settings) (r : Result Sealed Refusal) → powered_of r ≡ start_of s → BeginsBy (in_limit s) s r
unfolding start_of
begins_by s r h = begins_in (in_limit s) s r h

held_by : (b : Bool) (s : Settings) (r : Outcome) (ps : List Play) → r ≡ pick b (power_on s) (powered_of (Err Contradiction)) → EachPlay PlayGiven r.state ps → HeldBy b s r ps
held_by true s r ps b h = (plays_given r.state ps h).1 s r [] (begins s r b).reached
held_by false s r ps b h = b

-- whatever is played behind a settings record: each event continues, and all that is promised holds of them all
pub plays_history : (s : Settings) (ps : List Play) → EachPlay PlayGiven (start_of s).state ps → EachPlay PlayContinues (start_of s).state ps × HeldBy (in_limit s) s (start_of s) ps
unfolding start_of
plays_history s ps h = ((plays_given (start_of s).state ps h).0, held_by (in_limit s) s (start_of s) ps refl h)
