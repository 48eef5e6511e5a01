-- What contradicts itself is turned down, and nothing else is.
use Rattle.std.proofs.Common.{◌≡◌, refl, sym, ap, ◌∙◌, true, List, [], ◌∷◌, ℕ, zero, suc, ◌<◌, get_or, length, lit<, slice_get, Option, Some, None, Result, Ok, Err, option_and_then}
use Rattle.bits.specs.Contract.{Allows}
use Rattle.refusals.specs.First.{Rung, rung, no_rung, Iff}
use Rattle.refusals.specs.declared.reasons.Refusal.{Refusal}
use Rattle.refusals.specs.declared.reasons.Refusal.TheVariants.{Contradiction}
use Rattle.rules.specs.Call.{Call, host_frame, happens}
use Rattle.rules.specs.declared.event.DeviceEvent.TheVariants.{SendData}
use Rattle.rules.specs.Tests.{tests}
use Rattle.rules.specs.declared.facts.Facts.{Facts}
use Rattle.device_state.specs.State.{zero_entry}
use Rattle.device_state.specs.declared.shapes.Entry.{Entry}
use Rattle.device.specs.Counter.{CounterGiven, CountGiven}
use Rattle.device.specs.DataDue.{data_due}
use Rattle.device.specs.Device.{contradictory_device, power_on}
use Rattle.device.specs.FactsOf.{facts_of}
use Rattle.device.specs.Lent.{Lent, Gave, Typed}
use Rattle.device.specs.Sealing.{Seals}
use Rattle.device.specs.Step.{step, Given}
use Rattle.device.specs.declared.state.Device.{Device}
use Rattle.device.specs.declared.sealed.Sealed.{Sealed}
use Rattle.device.proofs.sealed as calls
use Rattle.device.specs.contracts.sealed as said
use Rattle.device.proofs.Contradicted.{contradicted}
use Rattle.device.proofs.Exactly.{first_exactly}
use Rattle.device.proofs.Refusals.{Unchanged, refused_unchanged}
use Rattle.device.proofs.Turns.{none_some}
use Rattle.device.proofs.Never.{never_contradicts_power}
use Rattle.device.proofs.NeverCalls.{never_contradicts_call}
use Rattle.history.specs.Serves.{Serves}
use Rattle.history.proofs.Allowed.{Allowed, CounterCode, CountCode}
use Rattle.history.proofs.Contracts.{allowed_given, counter_code, count_code}
use Rattle.history.proofs.Serves.{serves}
use Rattle.promises.specs.Contradicts.{Contradicts}
use Rattle.promises.specs.DueTold.{due_of, due_told}
use Rattle.promises.specs.TurnedDown.{AsItWas, SealTold, TurnedDown, PowerSound}
use Rattle.promises.proofs.Agrees.{none_holds}
use Rattle.promises.proofs.Questions.{agrees, lets_pass, counter_told, count_told}

-- the first test of every call is that of 1
first_rung : (v : Facts) (c : Call) → (get_or (tests v c) 0 no_rung ≡ rung Contradiction v.contradicts) × (0 < length (tests v c))
unfolding tests
first_rung v (host_frame f) = (refl, lit< tt)
first_rung v (happens SendData) = (refl, lit< tt)
first_rung v _ = (refl, lit< tt)

-- an answer that the contract of `Sealed::try_from` allows
pub data SealCode : Device → Result Sealed Refusal → Type 0 where
  tried : (d : Device) (k : Result Sealed Refusal) → Allows said.SealedTryFromDevice.try_from.ended calls.SealedTryFromDevice.try_from.Reads.Post tt (d, tt) k (tt, tt) → SealCode d k

-- which promises that answer
seal_code : (d : Device) (k : Result Sealed Refusal) → SealCode d k → Seals d k
seal_code d k (tried x r p) = p

module _ (d : Device) where
  -- ---- a call
  stepped : (l : Lent) → Iff ((step d l).refusal ≡ Some Contradiction) (contradictory_device d ≡ true)
  stepped l =
      let r = first_rung (facts_of d l) l.call in
      let e = (first_exactly d l).each 0 r.1 in
      let test : (get_or (tests (facts_of d l) l.call) 0 no_rung).0 ≡ contradictory_device d = ap (λ (x : Rung). x.0) r.0 in
      let name : (get_or (tests (facts_of d l) l.call) 0 no_rung).1 ≡ Contradiction = ap (λ (x : Rung). x.1) r.0 in
      (λ z. sym test ∙ (e.0 (z ∙ ap Some (sym name))).0, contradicted d l)

  refused : (l : Lent) (g : Gave) → Given d l g → Iff (g.outcome.refusal ≡ Some Contradiction) (Contradicts d)
  refused l g p = (λ z. (agrees d).0 ((stepped l).0 (sym p.refusal ∙ z)), λ c. p.refusal ∙ (stepped l).1 ((agrees d).1 c))

  kept : (l : Lent) (g : Gave) → Given d l g → Contradicts d → AsItWas d l g
  kept l g p c =
      let u : Unchanged d l g = refused_unchanged d l g p (λ z. none_some Contradiction (sym ((refused l g p).1 c) ∙ z)) in
      record { state = u.state; len = u.len; medium = u.medium; buffer = u.reply }

  leaves : (l : Lent) (g : Gave) → Typed l.call → Given d l g → g.outcome.refusal ≡ None → Contradicts g.outcome.state → ⊥
  leaves l g t p z = none_holds g.outcome.state (ap contradictory_device p.state ∙ never_contradicts_call d l t.1 (sym p.refusal ∙ z))

  -- ---- a device to keep
  sealed : (k : Result Sealed Refusal) → Seals d k → SealTold d k
  sealed (Ok s) p = (p, none_holds d (ap contradictory_device (sym p) ∙ s.sound))
  sealed (Err e) p = (p.0, (agrees d).0 p.1)

  -- and nothing else comes of it
  pub seal_only : (k : Result Sealed Refusal) → SealTold d k → Seals d k
  seal_only (Ok s) p = p.0
  seal_only (Err e) p = (p.0, (agrees d).1 p.1)

  pub turned_down : TurnedDown Given CounterGiven CountGiven Seals d
  turned_down = record { refused = refused; kept = kept; counter = counter_told d; count = count_told d; sealed = sealed; leaves = leaves }

  -- and of the code: each function's own contract
  pub turned_down_code : TurnedDown Allowed CounterCode CountCode SealCode d
  turned_down_code = record {
    refused = λ l g p. refused l g (allowed_given p);
    kept = λ l g p. kept l g (allowed_given p);
    counter = λ number c p. counter_told d number c (counter_code d number c p);
    count = λ c p. count_told d c (count_code d c p);
    sealed = λ k p. sealed k (seal_code d k p);
    leaves = λ l g t p. leaves l g t (allowed_given p);
  }

-- so any other state serves its commands
pub others_serve : (d : Device) → (Contradicts d → ⊥) → Serves Given d
others_serve d n = serves d (lets_pass d n)

-- power-on
pub power_sound : PowerSound
power_sound s z = none_holds (power_on s).state (never_contradicts_power s z)

-- ---- the host data that is due

-- an entry that is not there is as idle as one of zeros
due_there : (es : List Entry) (t : ℕ) → due_of (get_or es t zero_entry) ≡ option_and_then due_of (slice_get es t)
due_there [] t = refl
due_there (e ∷ es) zero = refl
due_there (e ∷ es) (suc t) = due_there es t

due_meant : (d : Device) (p : Option ℕ) → d.status.phase ≡ p → data_due d ≡ option_and_then due_of (option_and_then (slice_get d.entries) p)
unfolding data_due
due_meant d None e = rw e
due_meant d (Some t) e = rw e (due_there d.entries t)

pub due_is : (d : Device) → data_due d ≡ due_told d
due_is d = due_meant d d.status.phase refl
