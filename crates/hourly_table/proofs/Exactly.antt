-- Each refusal of a table is given exactly when it should be, and behind none a page was refused.
use Rattle.std.proofs.Common.{◌≡◌, refl, sym, ap, ◌∙◌, subst, ℕ, ◌<◌, Bool, true, false, not, ◌||◌, eqb, T, List, length, get_or, Option, Some, None, eqb-true, eq-eqb, ⊎_elim}
use Rattle.bits.proofs.Picks.{tested}
use Rattle.bits.proofs.Tables.{all_below, below_all}
use Rattle.hourly_table.specs.Samples.{Sampled}
use Rattle.hourly_table.specs.Refused.{TableTest, table_number, no_test, NoneBefore, FirstGiven, first_refusal}
use Rattle.hourly_table.specs.Table.{table_tests}
use Rattle.hourly_table.specs.declared.reasons.TableRefusal.{TableRefusal}
use Rattle.hourly_table.proofs.Firsts.{none_first, first_held, held, none_held}

-- the refusals of some tests are apart: of two places that have one number each is the other
abbrev Apart : List TableTest → Type 0
Apart tests = (j k : ℕ) → j < length tests → k < length tests → (get_or tests j no_test).1 ≡ (get_or tests k no_test).1 → j ≡ k

none_other : (tests : List TableTest) → ((k : ℕ) → k < length tests → first_refusal tests ≡ Some (get_or tests k no_test).1 → ⊥) → (o : Option TableRefusal) → first_refusal tests ≡ o → first_refusal tests ≡ None
none_other tests never None e = e
none_other tests never (Some r) e = let f = held tests r e in absurd (never f.place f.there (e ∙ ap Some f.its))

given_exactly : (tests : List TableTest) → Apart tests → FirstGiven tests (first_refusal tests)
given_exactly tests apart = record {
  each = λ k h. (
    λ e.
        let f = held tests (get_or tests k no_test).1 e in
        let same : f.place ≡ k = apart f.place k f.there h (sym f.its) in
        (subst (λ (n : ℕ). (get_or tests n no_test).0 ≡ true) same f.holds, subst (λ (n : ℕ). NoneBefore tests n) same f.first),
    λ p. first_held tests k h p.0 p.1,
  );
  none = (none_held tests, none_first tests);
  other = λ never. none_other tests never (first_refusal tests) refl;
}

same_place : (j k m n : ℕ) → T (eqb j k || not (eqb m n)) → m ≡ n → j ≡ k
same_place j k m n t e =
    ⊎_elim
    (λ (y : eqb j k ≡ true). eqb-true j k y)
    (λ (f : eqb j k ≡ false). absurd (rw (f, eq-eqb m n e) at t))
    (tested (eqb j k))

module _ (samples : List Sampled) (numbers : List ℕ) (room : ℕ) where
  abbrev number_at : ℕ → ℕ
  number_at k = table_number (get_or (table_tests samples numbers room) k no_test).1

  abbrev told_apart : ℕ → ℕ → Bool
  told_apart j k = eqb j k || not (eqb (number_at j) (number_at k))

  -- 20, 23, 21, 22, 70, 71
  pub first_exactly : FirstGiven (table_tests samples numbers room) (first_refusal (table_tests samples numbers room))
  first_exactly =
      given_exactly (table_tests samples numbers room)
      (λ j k h l e. same_place j k (number_at j) (number_at k) (below_all 6 (told_apart j) (below_all 6 (λ i. all_below 6 (told_apart i)) tt j h) k l) (ap table_number e))
