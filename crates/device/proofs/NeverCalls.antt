-- A taken call never makes a state that contradicts itself.
use Rattle.std.proofs.Common.{None, Ok, ◌≡◌, refl, ap, ◌∙◌, false, List, ℕ, ◌^◌, ◌<◌, length}
use Rattle.frames.proofs.ReadLaws.{read_data}
use Rattle.rules.specs.Call.{Call, host_frame}
use Rattle.rules.specs.Handed.{handed}
use Rattle.rules.specs.declared.acts.Act.{Act}
use Rattle.rules.proofs.Ruled as by
use Rattle.device.specs.Device.{contradictory_device}
use Rattle.device.specs.Lent.{Lent, lent}
use Rattle.device.specs.FactsOf.{medium_wrong, unready_in, facts_of}
use Rattle.device.specs.After.{after_of}
use Rattle.device.specs.Step.{act_of, step}
use Rattle.device.specs.declared.state.Device.{Device}
use Rattle.device.proofs.Turns.{by_turn, none_some, act_ruled}
use Rattle.device.proofs.Rulings.{Good, heard_keeps, own_keeps}

-- a set of tags has 32 bits; of a call without one nothing is asked
abbrev pub SetOf32 : Call → Type 0
SetOf32 c = (handed c).set < 2 ^ 32

-- a taken call
ruled_good : (d : Device) (m b : List ℕ) {c : Call} {a : Act} → SetOf32 c → by.Ruled (facts_of d (lent c m b)) c (Ok a) → Good d a
ruled_good d m b t (by.host f a g w s h) = (heard_keeps d (medium_wrong d.settings.capacity (length m)) (unready_in d (host_frame f)) (length b) g _ f (read_data f) h).good tt
ruled_good d m b t (by.own o) = (own_keeps d m b o).keeps.good t

-- what its act leaves behind
pub sound_done : (d : Device) (l : Lent) (a : Act) (d' : Device) → SetOf32 l.call → Ok a ≡ act_of d l → d' ≡ after_of d a → contradictory_device d' ≡ false
sound_done d l a d' t q s = ap contradictory_device s ∙ ruled_good d l.medium l.buffer t (act_ruled d l a q)

-- every call
pub never_contradicts_call : (d : Device) (l : Lent) → SetOf32 l.call → (step d l).refusal ≡ None → contradictory_device (step d l).state ≡ false
never_contradicts_call d l t = by_turn d l (λ s. s.refusal ≡ None → contradictory_device s.state ≡ false) (λ r _ z. absurd (none_some r z)) (λ a q _. sound_done d l a _ t q refl)
