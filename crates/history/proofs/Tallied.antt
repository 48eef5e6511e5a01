-- A link tally is as many link events: of each result that the one contract promises, and that a call's own contract allows.
use Rattle.std.proofs.Common.{Some, ◌≡◌, refl, sym, ap, subst, ◌∙◌, true, false, ⊎_elim, List, [], ◌∷◌, map, ℕ, ◌+◌, eqb, cond, count_by}
use Rattle.std.proofs.lemmas.List.Sums.{sum_by-cons}
use Rattle.bits.specs.Pick.{pick}
use Rattle.bits.proofs.Picks.{tested}
use Rattle.refusals.specs.declared.reasons.Refusal.TheVariants.{Contradiction, NoRow}
use Rattle.device.specs.Device.{contradictory_device}
use Rattle.device.specs.Lent.{Lent, Gave}
use Rattle.device.specs.Step.{Given}
use Rattle.device.specs.declared.state.Device.{Device}
use Rattle.device.proofs.Contradicted.{contradicted}
use Rattle.device.proofs.Tallies as steps
use Rattle.history.specs.Run.{Done}
use Rattle.history.specs.Follows.{FollowsBy, final, lents}
use Rattle.history.specs.Tallied.{link, tally, AllTaken, RefusedRow, TallyIsLinks}
use Rattle.history.proofs.Allowed.{Allowed}
use Rattle.history.proofs.Contracts.{allowed_given, allowed_follows}

-- how often a row stands among some
often : (r : ℕ) (rows : List ℕ) → steps.times r rows ≡ count_by (λ x. eqb r x) rows
unfolding steps.times
often r [] = refl
often r (x ∷ rows) = ap (λ (n : ℕ). pick (eqb r x) 1 0 + n) (often r rows) ∙ sym (sum_by-cons (λ (y : ℕ). cond (eqb r y) 1 0) x rows)

-- link events that the definitions lead through are those that are promised
led : (rows : List ℕ) (d d' : Device) (xs : List Done) → steps.Linked d rows d' → FollowsBy Given d xs → lents xs ≡ map link rows → AllTaken xs × (final d xs ≡ d')
unfolding FollowsBy final AllTaken
led [] d d' [] (steps.no_more _) f e = (tt, refl)
led [] d d' (x ∷ xs) l f e = absurd (cc)
led (r ∷ rows) d d' [] l f e = absurd (cc)
led (r ∷ rows) d d' (x ∷ xs) (steps.one_more _ _ _ _ z l) f e =
    let a : x.lent ≡ link r = cc in
    let p : Given d (link r) x.gave = subst (λ (y : Lent). Given d y x.gave) a f.0 in
    let more = led rows x.gave.outcome.state d' xs (subst (λ (s : Device). steps.Linked s rows d') (sym p.state) l) f.1 (cc) in
    ((p.refusal ∙ z, more.0), more.1)

module _ (d : Device) where
  -- a state that contradicts itself turns down with 1
  not_13 : (l : Lent) (g : Gave) → Given d l g → g.outcome.refusal ≡ Some NoRow → contradictory_device d ≡ false
  not_13 l g p z =
      ⊎_elim
      (λ (b : contradictory_device d ≡ true). let one : Some NoRow ≡ Some Contradiction = sym z ∙ p.refusal ∙ contradicted d l b in absurd (cc))
      (λ (b : contradictory_device d ≡ false). b)
      (tested (contradictory_device d))

  of_row : (amounts : List ℕ) (row : ℕ) → steps.RefusedRow d amounts row → RefusedRow Given d amounts row
  of_row amounts row x = record { below = x.row; some = x.some; refused = λ g p. p.refusal ∙ x.refused }

  pub tally_is_links : TallyIsLinks Given d
  tally_is_links = record {
    taken = λ amounts rows g xs n m p z o f e.
        let l = steps.tally_links d amounts rows n m (sym p.refusal ∙ z) (λ r. often r rows ∙ o r) in
        let t = led rows d _ xs l f e in
        (t.0, t.1 ∙ sym p.state);
    refused = λ amounts g p z. let r = steps.tally_refused_by d amounts (not_13 (tally amounts) g p z) (sym p.refusal ∙ z) in (r.0, of_row amounts r.0 r.1);
    refuses = λ amounts row g g' p q x.
        let z = x.refused g' q in
        p.refusal ∙ steps.refused_row d amounts row (not_13 (link row) g' q z) (record { row = x.below; some = x.some; refused = sym q.refusal ∙ z });
  }

  -- and of the code
  pub tally_is_links_code : TallyIsLinks Allowed d
  tally_is_links_code =
      let a = tally_is_links in
      record {
        taken = λ amounts rows g xs n m p z o f e. a.taken amounts rows g xs n m (allowed_given p) z o (allowed_follows xs d f) e;
        refused = λ amounts g p z.
            let r = a.refused amounts g (allowed_given p) z in
            (r.0, record { below = r.1.below; some = r.1.some; refused = λ g' q. r.1.refused g' (allowed_given q) });
        refuses = λ amounts row g g' p q x. let z = x.refused g' q in let y = allowed_given q in a.refuses amounts row g g' (allowed_given p) (allowed_given q) (record { below = x.below; some = x.some; refused = λ h k. k.refusal ∙ sym y.refusal ∙ z });
      }
