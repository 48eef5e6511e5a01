-- How a device comes to be kept: a state that is given, and power-on.
use Rattle.std.specs.Prelude.{◌≡◌, true, Result, Ok, Err, Some, None, MatchResult}
use Rattle.refusals.specs.declared.reasons.Refusal.{Refusal}
use Rattle.refusals.specs.declared.reasons.Refusal.TheVariants.{Contradiction}
use Rattle.device.specs.Device.{contradictory_device, zero_device}
use Rattle.device.specs.declared.state.Device.{Device}
use Rattle.device.specs.declared.state.Outcome.{Outcome}
use Rattle.device.specs.declared.sealed.Sealed.{Sealed}

-- the state that a kept device lends [kept-device]
abbrev pub state_of : Sealed → Device
state_of s = s.device

-- a state is kept as it is, or contradicts itself and is refused with 1: that one which does is not kept is the field of `Sealed` [kept-device]
abbrev pub Seals : Device → Result Sealed Refusal → Type 0
Seals d r = MatchResult r (λ s. state_of s ≡ d) (λ e. (e ≡ Contradiction) × (contradictory_device d ≡ true))

-- the outcome that power-on of a kept device stands for: a refused power-on hands back all zeros, which are no device to keep
unfoldable pub powered_of : Result Sealed Refusal → Outcome
powered_of (Ok s) = record { state = state_of s; refusal = None; len = 0 }
powered_of (Err r) = record { state = zero_device; refusal = Some r; len = 0 }
