-- The state at the end of a run never contradicts itself; after a refused power-on it stays all zeros.
use Rattle.std.proofs.Common.{Option, Some, None, ◌≡◌, refl, sym, ap, ◌∙◌, false}
use Rattle.refusals.specs.declared.reasons.Refusal.{Refusal}
use Rattle.refusals.specs.declared.reasons.Refusal.TheVariants.{Contradiction}
use Rattle.device_state.specs.declared.shapes.Settings.{Settings}
use Rattle.device.specs.Device.{contradictory_device, power_refusal, powered, power_on, fresh_device, zero_device}
use Rattle.device.specs.Step.{Step, step}
use Rattle.device.specs.declared.state.Device.{Device}
use Rattle.device.proofs.Never.{never_contradicts_power}
use Rattle.device.proofs.NeverCalls.{never_contradicts_call}
use Rattle.device.proofs.Refusals.{refused_keeps, refused_zeros}
use Rattle.device.proofs.Turns.{none_some}
use Rattle.device.proofs.Zeros.{zeros}
use Rattle.device.specs.Lent.{Lent, Typed}
use Rattle.device.proofs.Effects.{act_settings}
use Rattle.history.proofs.Decided.{by_decided}

-- ---- power-on

-- what follows from a power-on that was taken, and from one that was refused, holds
pub by_power : {C : Type 0} (s : Settings) → ((power_on s).refusal ≡ None → C) → (((power_on s).refusal ≡ None → ⊥) → C) → C
by_power {C} s = go (power_on s).refusal
  where
    go : (r : Option Refusal) → (r ≡ None → C) → ((r ≡ None → ⊥) → C) → C
    go None k n = k refl
    go (Some r) k n = n (none_some r)

-- what holds of the device as it is made, and of all zeros, holds of what power-on hands back
pub from_power : (P : Device → Type 0) (s : Settings) → P (fresh_device s) → P zero_device → P (power_on s).state
unfolding power_on
from_power P s fresh zero = go (power_refusal s)
  where
    go : (r : Option Refusal) → P (powered r s)
    go None = fresh
    go (Some r) = zero

-- ---- every call

-- after a power-on with these settings: taken, the state does not contradict itself and has these settings; refused, it is all zeros
pub record Sound (s : Settings) (d : Device) : Type 0 where
  pub good : (power_on s).refusal ≡ None → contradictory_device d ≡ false
  pub settings : (power_on s).refusal ≡ None → d.settings ≡ s
  pub zeros : ((power_on s).refusal ≡ None → ⊥) → d ≡ zero_device

-- power-on itself
pub sound_power : (s : Settings) → Sound s (power_on s).state
unfolding power_on fresh_device
sound_power s = record { good = never_contradicts_power s; settings = λ z. rw z; zeros = refused_zeros s }

-- a call, refused or taken
good_call : (d : Device) (l : Lent) → Typed l.call → contradictory_device d ≡ false → contradictory_device (step d l).state ≡ false
good_call d l t g =
    by_decided d l (λ (s : Step). (s.refusal ≡ None → contradictory_device s.state ≡ false) → contradictory_device s.state ≡ false) (λ _ _. g) (λ _ _ k. k refl) (never_contradicts_call d l t.1)

same_settings : (d : Device) (l : Lent) → (step d l).state.settings ≡ d.settings
same_settings d l = by_decided d l (λ (s : Step). s.state.settings ≡ d.settings) (λ _. refl) (λ a _. act_settings d a)

-- all zeros stay all zeros
zero_call : (l : Lent) → (step zero_device l).state ≡ zero_device
zero_call l = (refused_keeps zero_device l (λ z. none_some Contradiction (sym (zeros l) ∙ z))).state

-- a call on a state of such a run
pub sound_step : (s : Settings) (d : Device) (l : Lent) → Typed l.call → Sound s d → Sound s (step d l).state
sound_step s d l t i = record {
  good = λ z. good_call d l t (i.good z);
  settings = λ z. same_settings d l ∙ i.settings z;
  zeros = λ n. ap (λ (x : Device). (step x l).state) (i.zeros n) ∙ zero_call l;
}
