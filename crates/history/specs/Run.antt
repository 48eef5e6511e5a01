-- Runs of the definitions: any sequence of calls of the device, each given the state that the last one returned.
use Rattle.std.specs.Prelude.{List, [], ◌∷◌, map, length}
use Rattle.bits.specs.Laid.{overlay}
use Rattle.device_state.specs.declared.shapes.Settings.{Settings}
use Rattle.device.specs.Device.{power_on}
use Rattle.device.specs.Lent.{Lent, Gave, gave, Typed}
use Rattle.device.specs.Step.{step, bytes_of}
use Rattle.device.specs.declared.state.Device.{Device}
use Rattle.history.specs.Event.{Event}

-- what the definitions give: the step, its frames in front of the reply buffer, and the rest as it was
abbrev pub result : Device → Lent → Gave
result d l =
    gave (record { state = (step d l).state; refusal = (step d l).refusal; len = length (bytes_of (step d l)) }) (step d l).medium (overlay (bytes_of (step d l)) l.buffer)

-- one call as it went
pub record Done : Type 0 where
  pub lent : Lent
  pub gave : Gave

-- a call and what it gave
abbrev pub done : Lent → Gave → Done
done a g = record { lent = a; gave = g }

-- what the outside saw of it: no state
abbrev pub event : Done → Event
event x = record {
  call = x.lent.call;
  medium = x.lent.medium;
  buffer = x.lent.buffer;
  refusal = x.gave.outcome.refusal;
  len = x.gave.outcome.len;
  filled = x.gave.buffer;
  left = x.gave.medium;
}

-- every call's arguments are of their types
unfoldable pub AllTyped : List Lent → Type 0
AllTyped [] = Unit
AllTyped (a ∷ as') = Typed a.call × AllTyped as'

-- where a run ends: the state, and the calls as they went, the newest first
pub record Run : Type 0 where
  pub state : Device
  pub calls : List Done

-- the run of the definitions: each call is given the state that the last one returned [any-sequence]
unfoldable pub run : Device → List Done → List Lent → Run
run d h [] = record { state = d; calls = h }
run d h (a ∷ as') = run (result d a).outcome.state (done a (result d a) ∷ h) as'

-- from power-on, with any settings; a refused power-on hands back all zeros, and goes on from there
abbrev pub run_from : Settings → List Lent → Run
run_from s as' = run (power_on s).state [] as'

-- its history
abbrev pub history : Settings → List Lent → List Event
history s as' = map event (run_from s as').calls
