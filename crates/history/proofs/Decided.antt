-- What a call leaves behind, by how it was decided: refused, or taken by one of the rules.
use Rattle.std.proofs.Common.{None, Result, Ok, Err, is_none, ◌≡◌, ap}
use mathlib.Core.Bool.{false≢true}
use Rattle.refusals.specs.declared.reasons.Refusal.{Refusal}
use Rattle.rules.specs.declared.acts.Act.{Act}
use Rattle.rules.proofs.Ruled as by
use Rattle.device.specs.Lent.{Lent}
use Rattle.device.specs.FactsOf.{facts_of}
use Rattle.device.specs.Step.{Step, step_by, act_of, step}
use Rattle.device.specs.declared.state.Device.{Device}

module _ (d : Device) (l : Lent) where
  -- what holds of each refusal, and of each act that a rule gives, holds of the call
  pub by_decided : (P : Step → Type 0) → ((r : Refusal) → P (step_by d l (Err r))) → ((a : Act) → by.Ruled (facts_of d l) l.call (Ok a) → P (step_by d l (Ok a))) → P (step d l)
  unfolding act_of
  by_decided P e k = go (act_of d l) (by.ruled (facts_of d l) l.call)
    where
      go : (x : Result Act Refusal) → by.Ruled (facts_of d l) l.call x → P (step_by d l x)
      go (Ok a) r = k a r
      go (Err r) _ = e r

  -- and what holds of each act that a rule gives holds of a taken call
  pub by_taken : (P : Step → Type 0) → ((a : Act) → by.Ruled (facts_of d l) l.call (Ok a) → P (step_by d l (Ok a))) → (step d l).refusal ≡ None → P (step d l)
  by_taken P k = by_decided (λ (s : Step). s.refusal ≡ None → P s) (λ r z. absurd (false≢true (ap is_none z))) (λ a r _. k a r)
