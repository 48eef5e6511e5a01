-- What the device's own contracts allow, and sequences of such results: what is said of the code.
use Rattle.std.specs.Prelude.{List, ℕ, Option, Result}
use contract.Lifetimes.{Lfts}
use Rattle.std.specs.Borrow.{Bor, MutBor}
use Rattle.bits.specs.Contract.{Allows}
use Rattle.device_state.specs.declared.shapes.Settings.{Settings}
use Rattle.device.specs.declared.state.Device.{Device}
use Rattle.device.specs.declared.state.Outcome.{Outcome}
use Rattle.device.proofs.state.Device as calls
use Rattle.device.specs.contracts.state.Device as said
use Rattle.rules.specs.Call.{host_frame, happens}
use Rattle.rules.specs.declared.event.DeviceEvent.TheVariants.{OpenPhase, SendData, FinishTags, MediaError, LinkEvent, LinkTally, Comreset}
use Rattle.device.specs.Lent.{Lent, lent, Gave, gave}
use Rattle.history.specs.Run.{Done}
use Rattle.history.specs.Follows.{FollowsBy}
use Rattle.refusals.specs.declared.reasons.Refusal.{Refusal}

-- one call of the state d, as it may go: each case is a public function of the device, and what it holds is that function's own contract, its `Post`; what the function is not lent stays as it was
pub data Allowed (d : Device) : Lent → Gave → Type 0 where
  hosted : (κs : Lfts 3) (f : Bor (List ℕ)) (m b : MutBor (List ℕ)) (r : Outcome) (m' b' : List ℕ)
      → Allows said.host_frame.ended calls.host_frame.Reads.Post κs (d, (f, (m, (b, tt)))) r (tt, (tt, (m', (b', tt)))) → Allowed d (lent (host_frame f.now) m.now b.now) (gave r m' b')
  opened : (κs : Lfts 1) (t : ℕ) (b : MutBor (List ℕ)) (r : Outcome) (m b' : List ℕ)
      → Allows said.open.ended calls.open.Reads.Post κs (d, (t, (b, tt))) r (tt, (tt, (b', tt))) → Allowed d (lent (happens (OpenPhase t)) m b.now) (gave r m b')
  sent : (κs : Lfts 2) (m : Bor (List ℕ)) (b : MutBor (List ℕ)) (r : Outcome) (b' : List ℕ)
      → Allows said.send.ended calls.send.Reads.Post κs (d, (m, (b, tt))) r (tt, (tt, (b', tt))) → Allowed d (lent (happens SendData) m.now b.now) (gave r m.now b')
  finished : (κs : Lfts 1) (s : ℕ) (b : MutBor (List ℕ)) (r : Outcome) (m b' : List ℕ)
      → Allows said.finish.ended calls.finish.Reads.Post κs (d, (s, (b, tt))) r (tt, (tt, (b', tt))) → Allowed d (lent (happens (FinishTags s)) m b.now) (gave r m b')
  failed : (κs : Lfts 1) (t e s : ℕ) (b : MutBor (List ℕ)) (r : Outcome) (m b' : List ℕ)
      → Allows said.media_error.ended calls.media_error.Reads.Post κs (d, (t, (e, (s, (b, tt))))) r (tt, (tt, (tt, (tt, (b', tt))))) → Allowed d (lent (happens (MediaError t e s)) m b.now) (gave r m b')
  linked : (row : ℕ) (r : Outcome) (m b : List ℕ)
      → Allows said.link_event.ended calls.link_event.Reads.Post tt (d, (row, tt)) r (tt, (tt, tt)) → Allowed d (lent (happens (LinkEvent row)) m b) (gave r m b)
  tallied : (ns : List ℕ) (r : Outcome) (m b : List ℕ)
      → Allows said.link_tally.ended calls.link_tally.Reads.Post tt (d, (ns, tt)) r (tt, (tt, tt)) → Allowed d (lent (happens (LinkTally ns)) m b) (gave r m b)
  reset : (κs : Lfts 1) (b : MutBor (List ℕ)) (r : Outcome) (m b' : List ℕ)
      → Allows said.comreset.ended calls.comreset.Reads.Post κs (d, (b, tt)) r (tt, (b', tt)) → Allowed d (lent (happens Comreset) m b.now) (gave r m b')

-- from power-on: its outcome as its contract allows it, and a sequence of results from the state that it returned, each allowed by its call's contract
pub record BeganCode (s : Settings) (r : Outcome) (xs : List Done) : Type 0 where
  pub power : Allows said.power_on.ended calls.power_on.Reads.Post tt (s, tt) r (tt, tt)
  pub follows : FollowsBy Allowed r.state xs

-- an answer that the contract of `Device::counter` allows
pub data CounterCode : Device → ℕ → Result (Option ℕ) Refusal → Type 0 where
  counted : (κs : Lfts 1) (d : Bor Device) (number : ℕ) (c : Result (Option ℕ) Refusal) → Allows said.counter.ended calls.counter.Reads.Post κs (d, (number, tt)) c (tt, (tt, tt)) → CounterCode d.now number c

-- an answer that the contract of `Device::outstanding_count` allows
pub data CountCode : Device → Result ℕ Refusal → Type 0 where
  summed : (κs : Lfts 1) (d : Bor Device) (c : Result ℕ Refusal) → Allows said.outstanding_count.ended calls.outstanding_count.Reads.Post κs (d, tt) c (tt, tt) → CountCode d.now c
