-- Power-on by the settings record.
use Rattle.std.specs.Prelude.{Err}
use Rattle.bits.specs.Pick.{pick}
use Rattle.refusals.specs.declared.reasons.Refusal.TheVariants.{Contradiction}
use Rattle.device.specs.Device.{power_on}
use Rattle.device.specs.Sealing.{powered_of}
use Rattle.device.specs.declared.state.Outcome.{Outcome}
use Rattle.device_state.specs.declared.shapes.Settings.{Settings}
use Rattle.events.specs.Settings.{in_limit}

-- power-on with what the record says; out of the limit refusal 1, which power-on gives for settings out of bounds [event-settings]
unfoldable pub start_of : Settings → Outcome
start_of s = pick (in_limit s) (power_on s) (powered_of (Err Contradiction))
