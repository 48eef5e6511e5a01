-- A kept device is known by its device, and an answer by the outcome that it stands for.
use Rattle.std.proofs.Common.{Option, Some, None, Result, Ok, Err, ◌≡◌, sym, ap, ◌∙◌, true, false, true≢false, ℕ, arith}
use mathlib.Core.Bool.{Bool-set}
use mathlib.Core.HLevel.{is_prop→PathP}
use Rattle.refusals.specs.declared.reasons.Refusal.{Refusal}
use Rattle.device_state.specs.Contradictory.{settings_out}
use Rattle.device_state.specs.declared.shapes.Settings.{Settings}
use Rattle.device.specs.Device.{contradictory_device, fresh_device, zero_device}
use Rattle.device.specs.Lent.{answered}
use Rattle.device.specs.Sealing.{Seals, powered_of}
use Rattle.device.specs.declared.state.Device.{Device}
use Rattle.device.specs.declared.state.Outcome.{Outcome}
use Rattle.device.specs.declared.sealed.Sealed.{Sealed}
use Rattle.device.specs.contracts.state.DeviceDefault.TheImpl
use Rattle.device.proofs.Defaults.{default_zeros}
use Rattle.device.proofs.Never.{zeros_contradict, never_contradicts}

-- its other field is a fact
pub kept_once : (k k' : Sealed) → k.device ≡ k'.device → k ≡ k'
kept_once k k' e = λ i. record { device = e i; sound = is_prop→PathP (λ j. contradictory_device (e j) ≡ false) (λ j. Bool-set (contradictory_device (e j)) false) k.sound k'.sound i }

-- a state that contradicts itself is no kept device
contradicts_kept : (k : Sealed) (d : Device) → k.device ≡ d → contradictory_device d ≡ true → ⊥
contradicts_kept k d e h = true≢false (sym h ∙ ap contradictory_device (sym e) ∙ k.sound)

-- one state has one answer
pub sealed_once : (d : Device) (r r' : Result Sealed Refusal) → Seals d r → Seals d r' → r ≡ r'
sealed_once d (Ok k) (Ok k') p q = ap Ok (kept_once k k' (p ∙ sym q))
sealed_once d (Ok k) (Err e) p q = absurd (contradicts_kept k d p q.1)
sealed_once d (Err e) (Ok k) p q = absurd (contradicts_kept k d q p.1)
sealed_once d (Err e) (Err e') p q = ap Err (p.0 ∙ sym q.0)

-- ---- what a call on a lent device answers

-- its state is the one that is left in place
pub answered_state : (d : Device) (r : Result ℕ Refusal) → (answered d r).state ≡ d
answered_state d r = grind arith

-- the answer that an outcome stands for
abbrev answer_by : Option Refusal → ℕ → Result ℕ Refusal
answer_by None n = Ok n
answer_by (Some e) n = Err e

abbrev answer_of : Outcome → Result ℕ Refusal
answer_of o = answer_by o.refusal o.len

answer_back : (d : Device) (r : Result ℕ Refusal) → r ≡ answer_of (answered d r)
answer_back d r = grind arith

-- one outcome has one answer, and one state
pub same_answer : (d d' : Device) (r r' : Result ℕ Refusal) → answered d r ≡ answered d' r' → r ≡ r'
same_answer d d' r r' e = answer_back d r ∙ ap answer_of e ∙ sym (answer_back d' r')

pub same_state : (d d' : Device) (r r' : Result ℕ Refusal) → answered d r ≡ answered d' r' → d ≡ d'
same_state d d' r r' e = sym (answered_state d r) ∙ ap (λ (o : Outcome). o.state) e ∙ answered_state d' r'

-- ---- power-on

-- all zeros are no kept device
pub never_zeros : (k : Sealed) → k.device ≡ zero_device → ⊥
never_zeros k e = contradicts_kept k zero_device e zeros_contradict

-- one power-on has one answer
pub powered_once : (r r' : Result Sealed Refusal) → powered_of r ≡ powered_of r' → r ≡ r'
unfolding powered_of
powered_once (Ok k) (Ok k') e = ap Ok (kept_once k k' (ap (λ (o : Outcome). o.state) e))
powered_once (Ok k) (Err r) e = absurd (never_zeros k (ap (λ (o : Outcome). o.state) e))
powered_once (Err r) (Ok k) e = absurd (never_zeros k (sym (ap (λ (o : Outcome). o.state) e)))
powered_once (Err r) (Err r') e = let f = ap (λ (o : Outcome). o.refusal) e in cc

-- a device by default, with settings that are not out of bounds, may be kept
pub fresh_sound : (s : Settings) (d : Device) → TheImpl.ghosts.is_default d → settings_out s ≡ false
    → contradictory_device (record { settings = s; status = d.status; entries = d.entries; errors = d.errors; values = d.values }) ≡ false
unfolding fresh_device
fresh_sound s d made h = rw (default_zeros d made) (never_contradicts s h)
