-- Sequences of calls of a device that is kept: what their contracts allow is a sequence as the one contract promises it.
use Rattle.std.proofs.Common.{◌≡◌, refl, subst, sym, List, [], ◌∷◌, ℕ, Result, Ok}
use contract.Lifetimes.{Lfts}
use Rattle.std.specs.Borrow.{Bor, MutBor}
use Rattle.bits.specs.Contract.{Allows}
use Rattle.device_state.specs.declared.shapes.Settings.{Settings}
use Rattle.device.specs.Sealing.{powered_of}
use Rattle.device.specs.Step.{Given}
use Rattle.refusals.specs.declared.reasons.Refusal.{Refusal}
use Rattle.device.specs.declared.state.Outcome.{Outcome}
use Rattle.device.specs.declared.sealed.Sealed.{Sealed}
use Rattle.device.proofs.sealed.Sealed as calls
use Rattle.device.specs.contracts.sealed.Sealed as said
use Rattle.device.proofs.Lending.{unlent, unlent_both}
use Rattle.device.proofs.Kept.{answered_state}
use Rattle.rules.specs.Call.{host_frame, happens}
use Rattle.rules.specs.declared.event.DeviceEvent.{DeviceEvent}
use Rattle.rules.specs.declared.event.DeviceEvent.TheVariants.{OpenPhase, SendData, FinishTags, MediaError, LinkEvent, LinkTally, Comreset}
use Rattle.device.specs.Lent.{Lent, lent, Gave, gave, answered}
use Rattle.history.specs.Run.{Done, done, AllTyped}
use Rattle.history.specs.Follows.{FollowsBy, final, lents, history_of, Began}
use Rattle.history.specs.Promised.{Promised}
use Rattle.history.proofs.Faithful.{promised_given}

-- one call of a kept device, as it may go, and what is kept then: each case is a public function of `Sealed`, and what it holds is that function's own contract
pub data Keeps : Sealed → Lent → Gave → Sealed → Type 0 where
  hosted : (κs : Lfts 4) (k : MutBor Sealed) (f : Bor (List ℕ)) (m b : MutBor (List ℕ)) (r : Result ℕ Refusal) (k' : Sealed) (m' b' : List ℕ)
      → Allows said.host_frame.ended calls.host_frame.Reads.Post κs (k, (f, (m, (b, tt)))) r (k', (tt, (m', (b', tt)))) → Keeps k.now (lent (host_frame f.now) m.now b.now) (gave (answered k'.device r) m' b') k'
  opened : (κs : Lfts 2) (k : MutBor Sealed) (t : ℕ) (b : MutBor (List ℕ)) (r : Result ℕ Refusal) (k' : Sealed) (m b' : List ℕ)
      → Allows said.open.ended calls.open.Reads.Post κs (k, (t, (b, tt))) r (k', (tt, (b', tt))) → Keeps k.now (lent (happens (OpenPhase t)) m b.now) (gave (answered k'.device r) m b') k'
  sent : (κs : Lfts 3) (k : MutBor Sealed) (m : Bor (List ℕ)) (b : MutBor (List ℕ)) (r : Result ℕ Refusal) (k' : Sealed) (b' : List ℕ)
      → Allows said.send.ended calls.send.Reads.Post κs (k, (m, (b, tt))) r (k', (tt, (b', tt))) → Keeps k.now (lent (happens SendData) m.now b.now) (gave (answered k'.device r) m.now b') k'
  finished : (κs : Lfts 2) (k : MutBor Sealed) (s : ℕ) (b : MutBor (List ℕ)) (r : Result ℕ Refusal) (k' : Sealed) (m b' : List ℕ)
      → Allows said.finish.ended calls.finish.Reads.Post κs (k, (s, (b, tt))) r (k', (tt, (b', tt))) → Keeps k.now (lent (happens (FinishTags s)) m b.now) (gave (answered k'.device r) m b') k'
  failed : (κs : Lfts 2) (k : MutBor Sealed) (t e s : ℕ) (b : MutBor (List ℕ)) (r : Result ℕ Refusal) (k' : Sealed) (m b' : List ℕ)
      → Allows said.media_error.ended calls.media_error.Reads.Post κs (k, (t, (e, (s, (b, tt))))) r (k', (tt, (tt, (tt, (b', tt))))) → Keeps k.now (lent (happens (MediaError t e s)) m b.now) (gave (answered k'.device r) m b') k'
  linked : (κs : Lfts 1) (k : MutBor Sealed) (row : ℕ) (r : Result ℕ Refusal) (k' : Sealed) (m b : List ℕ)
      → Allows said.link_event.ended calls.link_event.Reads.Post κs (k, (row, tt)) r (k', (tt, tt)) → Keeps k.now (lent (happens (LinkEvent row)) m b) (gave (answered k'.device r) m b) k'
  tallied : (κs : Lfts 1) (k : MutBor Sealed) (ns : List ℕ) (r : Result ℕ Refusal) (k' : Sealed) (m b : List ℕ)
      → Allows said.link_tally.ended calls.link_tally.Reads.Post κs (k, (ns, tt)) r (k', (tt, tt)) → Keeps k.now (lent (happens (LinkTally ns)) m b) (gave (answered k'.device r) m b) k'
  reset : (κs : Lfts 2) (k : MutBor Sealed) (b : MutBor (List ℕ)) (r : Result ℕ Refusal) (k' : Sealed) (m b' : List ℕ)
      → Allows said.comreset.ended calls.comreset.Reads.Post κs (k, (b, tt)) r (k', (b', tt)) → Keeps k.now (lent (happens Comreset) m b.now) (gave (answered k'.device r) m b') k'
  -- any device event, as an event file names it
  happened : (κs : Lfts 3) (k : MutBor Sealed) (e : DeviceEvent) (m : Bor (List ℕ)) (b : MutBor (List ℕ)) (r : Result ℕ Refusal) (k' : Sealed) (b' : List ℕ)
      → Allows said.event.ended calls.event.Reads.Post κs (k, (e, (m, (b, tt)))) r (k', (tt, (tt, (b', tt)))) → Keeps k.now (lent (happens e) m.now b.now) (gave (answered k'.device r) m.now b') k'

-- calls one after the other, the oldest first, each of what the last one kept
pub data KeepsOn : Sealed → List Done → Sealed → Type 0 where
  ended : (k : Sealed) → KeepsOn k [] k
  after : (k : Sealed) (l : Lent) (g : Gave) (k' : Sealed) (xs : List Done) (end : Sealed) → Keeps k l g k' → KeepsOn k' xs end → KeepsOn k (done l g ∷ xs) end

-- from power-on
pub data BeganKept (s : Settings) (xs : List Done) : Sealed → Type 0 where
  began_kept : (k end : Sealed) → Allows said.power_on.ended calls.power_on.Reads.Post tt (s, tt) (Ok k) (tt, tt) → KeepsOn k xs end → BeganKept s xs end

-- each call's own contract is the one contract, and what is given back is what is kept
pub keeps_given : {k k' : Sealed} {l : Lent} {g : Gave} → Keeps k l g k' → Given k.device l g × (g.outcome.state ≡ k'.device)
keeps_given (hosted κs k f m b r k' m' b' p) = (p, answered_state k'.device r)
keeps_given (opened κs k t b r k' m b' p) = (unlent k.now.device (happens (OpenPhase t)) m b.now b' (answered k'.device r) refl p, answered_state k'.device r)
keeps_given (sent κs k m b r k' b' p) = (p, answered_state k'.device r)
keeps_given (finished κs k s b r k' m b' p) = (unlent k.now.device (happens (FinishTags s)) m b.now b' (answered k'.device r) refl p, answered_state k'.device r)
keeps_given (failed κs k t e s b r k' m b' p) = (unlent k.now.device (happens (MediaError t e s)) m b.now b' (answered k'.device r) refl p, answered_state k'.device r)
keeps_given (linked κs k row r k' m b p) = (unlent_both k.now.device (happens (LinkEvent row)) m b (answered k'.device r) refl refl p, answered_state k'.device r)
keeps_given (tallied κs k ns r k' m b p) = (unlent_both k.now.device (happens (LinkTally ns)) m b (answered k'.device r) refl refl p, answered_state k'.device r)
keeps_given (reset κs k b r k' m b' p) = (unlent k.now.device (happens Comreset) m b.now b' (answered k'.device r) refl p, answered_state k'.device r)
keeps_given (happened κs k e m b r k' b' p) = (p, answered_state k'.device r)

-- so a sequence is one of results as the one contract promises them, and ends with what is kept
pub keeps_follows : {k end : Sealed} {xs : List Done} → KeepsOn k xs end → FollowsBy Given k.device xs × (final k.device xs ≡ end.device)
unfolding FollowsBy final
keeps_follows (ended k) = (tt, refl)
keeps_follows (after k l g k' xs end c q) =
    let a = keeps_given c in
    let b = keeps_follows q in
    let e : k'.device ≡ g.outcome.state = sym a.1 in
    ((a.0, subst (λ d. FollowsBy Given d xs) e b.0), subst (λ d. final d xs ≡ end.device) e b.1)

-- a sequence as the one contract promises it, which ends with what is kept: so whatever holds of one holds of it
pub record FollowsKept (s : Settings) (xs : List Done) (end : Sealed) : Type 0 where
  pub power : Outcome
  pub began : Began s power xs
  pub last : final power.state xs ≡ end.device

pub kept_began : {s : Settings} {xs : List Done} {end : Sealed} → BeganKept s xs end → FollowsKept s xs end
unfolding powered_of
kept_began (began_kept k last p q) = let f = keeps_follows q in record { power = powered_of (Ok k); began = record { power = p; follows = f.0 }; last = f.1 }

module _ (s : Settings) (xs : List Done) (end : Sealed) (b : BeganKept s xs end) (t : AllTyped (lents xs)) where
  -- all that is promised of it, and the device that is kept is what it tells
  pub promised_kept : Promised s (kept_began b).power end.device (history_of xs)
  promised_kept = let f = kept_began b in subst (λ d. Promised s f.power d (history_of xs)) f.last (promised_given s f.power xs f.began t)
