-- Every call on a state that contradicts itself is refused with 1, and leaves all as it was.
use Rattle.std.proofs.Common.{Option, Some, Err, ◌≡◌, sym, ap, ◌∙◌, true}
use mathlib.Core.Path.{subst⁻¹}
use Rattle.refusals.specs.First.{unless}
use Rattle.refusals.specs.declared.reasons.Refusal.{Refusal}
use Rattle.refusals.specs.declared.reasons.Refusal.TheVariants.{Contradiction}
use Rattle.rules.specs.Act.{does, act}
use Rattle.rules.proofs.TestLaws.{test_laws}
use Rattle.device.specs.Device.{contradictory_device}
use Rattle.device.specs.Lent.{Lent, gave, answered}
use Rattle.device.specs.FactsOf.{facts_of}
use Rattle.device.specs.Step.{act_of, step, Given}
use Rattle.device.specs.declared.state.Device.{Device}
use Rattle.device.specs.declared.state.Outcome.{Outcome}
use Rattle.device.proofs.Turns.{step_refusal}
use Rattle.device.proofs.Doing.{refused_given}

module _ (d : Device) (l : Lent) (h : contradictory_device d ≡ true) where
  -- the row of each call begins with 1
  pub contradicted : (step d l).refusal ≡ Some Contradiction
  contradicted = step_refusal d l ∙ (test_laws (facts_of d l) l.call).one h

  act_contradicted : act_of d l ≡ Err Contradiction
  unfolding act_of act
  act_contradicted = ap (λ (o : Option Refusal). unless o (does (facts_of d l) l.call)) ((test_laws (facts_of d l) l.call).one h)

  -- so a call that asks nothing more, and answers that, has kept its contract
  pub given_contradicted : (o : Outcome) → o ≡ answered d (Err Contradiction) → Given d l (gave o l.medium l.buffer)
  given_contradicted o e = subst⁻¹ (λ (x : Outcome). Given d l (gave x l.medium l.buffer)) e (refused_given d l Contradiction (sym act_contradicted))
