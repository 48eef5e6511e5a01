-- Reset is held by the state where it is by the history: what each call does to it.
use Rattle.std.proofs.Common.{Ok, ◌≡◌, refl, sym, ◌∙◌, Bool, true, false, ◌||◌, List, [], ◌∷◌, ℕ, ne_eqb, arith}
use Rattle.bits.specs.Pick.{pick}
use Rattle.bits.specs.Bit.{bit_in}
use Rattle.device_state.specs.Contradictory.{status_bad}
use Rattle.frames.specs.declared.shapes.HostReg.{HostReg}
use Rattle.rules.specs.Call.{Call, host_frame}
use Rattle.rules.specs.Positions.{move_of}
use Rattle.rules.specs.declared.acts.Act.{Act}
use Rattle.rules.specs.declared.facts.Facts.{Facts}
use Rattle.rules.proofs.Ruled as by
use Rattle.device.specs.Device.{contradictory_device, power_on, fresh_device}
use Rattle.device_state.specs.declared.shapes.Settings.{Settings}
use Rattle.device.specs.Lent.{Lent, lent}
use Rattle.device.specs.After.{after_of, halt_with, reset_held, released_device, accepted_by, unhalted_device, zeroed_if, moved_by, opened_for, finished_by, failed_by, renewed_device, counted_by}
use Rattle.device.specs.FactsOf.{facts_of}
use Rattle.device.specs.Step.{Step, step}
use Rattle.device.specs.declared.state.Device.{Device}
use Rattle.device.proofs.Parts.{status_good}
use Rattle.history.specs.Event.{Event}
use Rattle.history.specs.FrameReading.{frame_asks}
use Rattle.history.specs.Reading.{call_asks}
use Rattle.history.specs.ByHistory.{frame_frees, frees, holding}
use Rattle.history.specs.Replied.{FrameRead}
use Rattle.history.proofs.Counts.{event_by, event_of}
use Rattle.history.proofs.Decided.{by_decided}
use Rattle.history.proofs.Sets.{no_busy}
use Rattle.history.proofs.Soundness.{from_power}

-- held next, from what a taken call frees and resets
abbrev next : Bool → Bool → Bool → Bool
next free reset held = pick free false (reset || held)

-- a state with something outstanding does not hold reset
busy_free : (d : Device) → contradictory_device d ≡ false → (t : ℕ) → bit_in 32 d.status.outstanding t ≡ true → d.status.held ≡ false
unfolding status_bad
busy_free d g t b =
    let f = d.status in
    let good = status_good d g in
    let some = ne_eqb f.outstanding 0 (λ z. no_busy f.outstanding t z b) in
    grind arith

-- a command that is not queued holds no reset
other_holds : (d : Device) {v : Facts} {h : HostReg} {a : Act} → by.Other v h a → d.status.held ≡ false → (after_of d a).status.held ≡ false
unfolding after_of unhalted_device zeroed_if halt_with
other_holds d (by.busy x) e = refl
other_holds d _ e = e

-- a host frame that is not turned down
heard_holds : (d : Device) (v : Facts) {f : FrameRead} {a : Act} → v.status ≡ d.status → by.Heard v f a → next (frame_frees f) (frame_asks f).resets d.status.held ≡ (after_of d a).status.held
unfolding after_of reset_held released_device accepted_by unhalted_device zeroed_if moved_by halt_with move_of
heard_holds d v e (by.srst h c s) = rw (c, s)
heard_holds d v e (by.release h c s y) = rw (c, s)
heard_holds d v e (by.nothing h c s y) = rw (c, s, ← e, y)
heard_holds d v e (by.rule1 h c y) = rw c.command
heard_holds d v e (by.rule2 h c y u) = rw (c.command, ← e, c.free)
heard_holds d v e (by.rule3 h c y u z) = rw (c.command, ← e, c.free)
heard_holds d v e (by.rule4 h c y u z) = rw c.command
heard_holds d v e (by.other h c y) = let free : d.status.held ≡ false = rw (← e) c.free in rw c.command (free ∙ sym (other_holds d y free))
heard_holds d v e (by.due n p w y) = refl
heard_holds d v e (by.bist y) = refl

-- a device event that is taken
own_holds : (d : Device) (m b : List ℕ) {c : Call} {a : Act} → by.Own (facts_of d (lent c m b)) c a → next (frees c) (call_asks c).resets d.status.held ≡ (after_of d a).status.held
unfolding after_of opened_for moved_by finished_by failed_by halt_with renewed_device released_device reset_held counted_by move_of
own_holds d m b (by.failed t e x g s o y w) = busy_free d g t o
own_holds d m b _ = refl

-- a call that is taken
ruled_holds : (d : Device) (m b : List ℕ) {c : Call} {a : Act} → by.Ruled (facts_of d (lent c m b)) c (Ok a) → next (frees c) (call_asks c).resets d.status.held ≡ (after_of d a).status.held
ruled_holds d m b (by.host f a g w s h) = heard_holds d (facts_of d (lent (host_frame f) m b)) refl h
ruled_holds d m b (by.own o) = own_holds d m b o

-- every call
pub holding_step : (d : Device) (l : Lent) (h : List Event) → holding h ≡ d.status.held → holding (event_of d l ∷ h) ≡ (step d l).state.status.held
unfolding holding
holding_step d l h k =
    by_decided d l (λ (s : Step). holding (event_by l s ∷ h) ≡ s.state.status.held) (λ _. k) (λ a r. rw k (ruled_holds d l.medium l.buffer r))

-- power-on
pub holding_power : (s : Settings) → holding [] ≡ (power_on s).state.status.held
unfolding holding fresh_device
holding_power s = from_power (λ (d : Device). false ≡ d.status.held) s refl refl
