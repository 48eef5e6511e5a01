-- The state against the history: what the device keeps is what its calls, refusals and reply bytes tell.
use Rattle.std.specs.Prelude.{◌≡◌, false, List, map, ℕ, ◌≤◌, ◌<◌, get_or, Option, None, Result}
use Rattle.std.specs.Int.Count.{ones}
use Rattle.bits.specs.Bit.{bit_in}
use Rattle.refusals.specs.declared.reasons.Refusal.{Refusal}
use Rattle.device_state.specs.declared.shapes.Settings.{Settings}
use Rattle.device.specs.Counter.{CounterGiven, CountGiven}
use Rattle.device.specs.DataDue.{data_due}
use Rattle.device.specs.Device.{contradictory_device, power_on, zero_device}
use Rattle.device.specs.declared.state.Device.{Device}
use Rattle.history.specs.Event.{Event}
use Rattle.history.specs.Seen.{seen}
use Rattle.history.specs.Fates.{one, total, total_with}
use Rattle.history.specs.Waits.{waits}
use Rattle.history.specs.Counted.{row_count}
use Rattle.history.specs.Polled.{counter_polled, count_polled, due_polled}

-- bit t of the mask is set exactly when a command with tag t, accepted in the history, is outstanding by the history; and there is at most one
abbrev pub AgreesOutstanding : Device → List Event → Type 0
AgreesOutstanding d h = (t : ℕ) → t < 32 → total_with t (map seen h) ≡ one (bit_in 32 d.status.outstanding t)

-- the device is halted exactly while an error waits
abbrev pub AgreesWaits : Device → List Event → Type 0
AgreesWaits d h = waits (map seen h) ≡ d.status.halted

-- every counter is its events since the last zeroing, held at the top
abbrev pub AgreesCounters : Device → List Event → Type 0
AgreesCounters d h = (row : ℕ) → row < 16 → get_or d.values row 0 ≡ row_count row h

-- every answer that `Device::counter` promises is what settings and history tell of its number, or its refusal
abbrev pub AgreesAsked : Settings → Device → List Event → Type 0
AgreesAsked s d h = (number : ℕ) (c : Result (Option ℕ) Refusal) → CounterGiven d number c → c ≡ counter_polled s.depth s.capacity s.mask h number

-- the ones of the mask are the commands outstanding, at most the depth
pub record AgreesDepth (depth : ℕ) (d : Device) (h : List Event) : Type 0 where
  pub counted : ones d.status.outstanding ≡ total (map seen h)
  pub most : ones d.status.outstanding ≤ depth

-- and so is every answer that `Device::outstanding_count` promises
abbrev pub AgreesCount : Settings → Device → List Event → Type 0
AgreesCount s d h = (c : Result ℕ Refusal) → CountGiven d c → c ≡ count_polled s.depth s.capacity s.mask h

-- and so is the answer of `Device::data_due`
abbrev pub AgreesDue : Device → List Event → Type 0
AgreesDue d h = data_due d ≡ due_polled h

-- after a power-on that was taken the state does not contradict itself; after a refused one it is all zeros
pub record AgreesConsistent (s : Settings) (d : Device) : Type 0 where
  pub good : (power_on s).refusal ≡ None → contradictory_device d ≡ false
  pub zeros : ((power_on s).refusal ≡ None → ⊥) → d ≡ zero_device

-- all of it [state-told]
pub record StateAgrees (s : Settings) (d : Device) (h : List Event) : Type 0 where
  pub outstanding : AgreesOutstanding d h
  pub waits : AgreesWaits d h
  pub counters : AgreesCounters d h
  pub asked : AgreesAsked s d h
  pub depth : AgreesDepth s.depth d h
  pub count : AgreesCount s d h
  pub due : AgreesDue d h
  pub consistent : AgreesConsistent s d
