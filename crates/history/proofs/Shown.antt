-- The settings that are kept decide which counters are shown: those of power-on, over every call.
use Rattle.std.proofs.Common.{refl, ap, ◌∙◌, true≢false, List, [], ◌∷◌, ℕ}
use Rattle.device_state.specs.Contradictory.{settings_out}
use Rattle.device_state.specs.declared.shapes.Settings.{Settings}
use Rattle.device.specs.Device.{fresh_device, power_on}
use Rattle.device.specs.declared.state.Device.{Device}
use Rattle.device.specs.Lent.{Lent}
use Rattle.history.specs.Run.{Done, done, result, run}
use Rattle.device.specs.Step.{Step}
use Rattle.device.proofs.Effects.{act_settings}
use Rattle.history.proofs.Decided.{by_decided}
use Rattle.history.proofs.Pages.{Masked}
use Rattle.history.proofs.Soundness.{from_power}

-- power-on leaves the settings that it was given, or none within bounds
pub masked_start : (s : Settings) → Masked s.mask (power_on s).state
unfolding fresh_device settings_out
masked_start s = from_power (Masked s.mask) s (λ _. refl) (λ e. absurd (true≢false e))

-- and no call changes them
pub masked_step : (mask : ℕ) (d : Device) (a : Lent) → Masked mask d → Masked mask (result d a).outcome.state
masked_step mask d a k =
    by_decided d a (λ (s : Step). Masked mask s.state) (λ _. k)
    (λ x _ o.
    let e = act_settings d x in
    ap (λ (s : Settings). s.mask) e ∙ k (rw e at o))

-- nor does a run
pub masked_run : (mask : ℕ) (d : Device) (h : List Done) (as' : List Lent) → Masked mask d → Masked mask (run d h as').state
unfolding run
masked_run mask d h [] k = k
masked_run mask d h (a ∷ as') k = masked_run mask (result d a).outcome.state (done a (result d a) ∷ h) as' (masked_step mask d a k)
