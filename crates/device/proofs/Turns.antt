-- What a call comes to: a refusal, or an act that one of the rules gives.
use Rattle.std.proofs.Common.{Some, None, Result, Ok, Err, ◌≡◌, refl, sym, subst, ◌∙◌, arith}
use Rattle.refusals.specs.First.{first_of, refusal_in}
use Rattle.refusals.specs.declared.reasons.Refusal.{Refusal}
use Rattle.rules.specs.Tests.{tests}
use Rattle.rules.specs.declared.acts.Act.{Act}
use Rattle.rules.proofs.Numbers.{act_number}
use Rattle.rules.proofs.Ruled as by
use Rattle.device.specs.declared.state.Device.{Device}
use Rattle.device.specs.Lent.{Lent}
use Rattle.device.specs.FactsOf.{facts_of}
use Rattle.device.specs.Step.{Step, step_by, act_of, step}

-- what is taken is not refused
pub none_some : (r : Refusal) → Some r ≡ None → ⊥
none_some r e = cc

module _ (d : Device) (l : Lent) where
  -- what holds of each refusal and of each act that the call may come to holds of what it leaves behind
  pub by_turn : (P : Step → Type 0) → ((r : Refusal) → Err r ≡ act_of d l → P (step_by d l (Err r))) → ((a : Act) → Ok a ≡ act_of d l → P (step_by d l (Ok a))) → P (step d l)
  by_turn P e k = go (act_of d l) refl
    where
      go : (x : Result Act Refusal) → x ≡ act_of d l → P (step_by d l x)
      go (Ok a) q = k a q
      go (Err r) q = e r q

  refusal_by : (x : Result Act Refusal) → (step_by d l x).refusal ≡ refusal_in x
  refusal_by x = grind arith

  -- a call is refused by the first of its tests that holds
  pub step_refusal : (step d l).refusal ≡ first_of (tests (facts_of d l) l.call)
  unfolding act_of
  step_refusal = refusal_by (act_of d l) ∙ act_number (facts_of d l) l.call

  -- the act of a call that is taken
  pub record Taken : Type 0 where
    pub act : Act
    pub is : act_of d l ≡ Ok act
    pub ruled : by.Ruled (facts_of d l) l.call (Ok act)

  -- by one of the rules
  pub act_ruled : (a : Act) → Ok a ≡ act_of d l → by.Ruled (facts_of d l) l.call (Ok a)
  unfolding act_of
  act_ruled a q = subst (by.Ruled (facts_of d l) l.call) (sym q) (by.ruled (facts_of d l) l.call)

  -- a call with no refusal has an act
  pub taken : (step d l).refusal ≡ None → Taken
  taken = by_turn (λ s. s.refusal ≡ None → Taken) (λ r _ z. absurd (none_some r z)) (λ a q _. record { act = a; is = sym q; ruled = act_ruled a q })
