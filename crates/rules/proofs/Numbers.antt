-- A call is refused by the first of its tests that holds.
use Rattle.std.proofs.Common.{◌≡◌, sym, subst, true}
use Rattle.refusals.specs.First.{first_of, FirstExactly, refusal_in}
use Rattle.refusals.proofs.FirstLaws as firsts
use Rattle.rules.specs.Call.{Call}
use Rattle.rules.specs.Tests.{tests}
use Rattle.rules.specs.Act.{does, act}
use Rattle.rules.specs.declared.facts.Facts.{Facts}
use Rattle.rules.proofs.TestLaws.{rises, test_laws}

module _ (v : Facts) (c : Call) where
  -- what a call is refused with
  pub act_number : refusal_in (act v c) ≡ first_of (tests v c)
  unfolding act
  act_number = firsts.refusal_in_unless (first_of (tests v c)) (does v c)

  -- each call gives each refusal of its row exactly when that test holds and none before it does, none exactly when none holds, and no other
  pub act_exactly : FirstExactly (tests v c) (refusal_in (act v c))
  act_exactly = subst (FirstExactly _) (sym act_number) (firsts.first_exactly (tests v c) (test_laws v c).once)

  -- the numbers of a call's row rise
  pub tests_rise : rises (tests v c) ≡ true
  tests_rise = (test_laws v c).rising
