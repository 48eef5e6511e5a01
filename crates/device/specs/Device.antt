-- The device's state, and power-on.
use Rattle.std.specs.Prelude.{Bool, false, replicate, Option, Some, None}
use Rattle.device_state.specs.State.{zero_entry, blank_record}
use Rattle.device_state.specs.UnderWay.{none_under_way}
use Rattle.device_state.specs.Contradictory.{settings_out, contradictory}
use Rattle.refusals.specs.First.{first_of}
use Rattle.refusals.specs.Ladders.{power_ladder}
use Rattle.refusals.specs.declared.reasons.Refusal.{Refusal}
use Rattle.device_state.specs.declared.shapes.Settings.{Settings}
use Rattle.device.specs.declared.state.Device.{Device}
use Rattle.device.specs.declared.state.Outcome.{Outcome}

-- the state handed in contradicts itself [state] [never-contradicts]
unfoldable pub contradictory_device : Device → Bool
contradictory_device d = contradictory d.settings d.status d.entries d.errors d.values

-- power-on: idle, record blank, counters 0 [power-on]
unfoldable pub fresh_device : Settings → Device
fresh_device s = record {
  settings = s;
  status = none_under_way false false;
  entries = replicate 32 zero_entry;
  errors = blank_record;
  values = replicate 16 0;
}

-- all zeros [power-refused]
abbrev pub zero_device : Device
zero_device = fresh_device (record { depth = 0; capacity = 0; mask = 0 })

-- what power-on is refused with
abbrev pub power_refusal : Settings → Option Refusal
power_refusal s = first_of (power_ladder (settings_out s))

-- the state that power-on hands back: refused, all zeros
abbrev pub powered : Option Refusal → Settings → Device
powered None s = fresh_device s
powered (Some r) s = zero_device

-- no reply [power-on] [on-the-type]
unfoldable pub power_on : Settings → Outcome
power_on s = record { state = powered (power_refusal s) s; refusal = power_refusal s; len = 0 }
