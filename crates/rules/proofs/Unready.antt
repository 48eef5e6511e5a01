-- A walk over the tags of a set tests every tag.
use Rattle.std.proofs.Common.{◌≡◌, refl, sym, ap, ap₂, ◌∙◌, Bool, true, false, true≢false, ◌||◌, List, ℕ, zero, suc, ◌<◌, ◌^◌, arith, ⊎_elim, eqb, eqb-true}
use Rattle.std.proofs.lemmas.Bool.{eqb-false}
use Rattle.bits.specs.Bit.{bit_in}
use Rattle.bits.proofs.Masks.{no_bit}
use Rattle.bits.proofs.Picks.{tested}
use Rattle.device_state.specs.declared.shapes.Entry.{Entry}
use Rattle.device_state.specs.Table.{some_below, entry_of}
use Rattle.device_state.proofs.TableLaws.{some_never, some_absent}
use Rattle.device_state.proofs.Sets.{lowest, others, there, asked, dropped, kept}
use Rattle.rules.specs.Tests.{unready, unready_at, some_unready}

some_same : (p q : ℕ → Bool) (n : ℕ) → ((i : ℕ) → i < n → p i ≡ q i) → some_below n p ≡ some_below n q
unfolding some_below
some_same p q zero h = refl
some_same p q (suc n) h = ap₂ (λ (a b : Bool). a || b) (some_same p q n (λ i l. h i (omega arith))) (h n (omega arith))

some_there : (p : ℕ → Bool) (n i : ℕ) → i < n → p i ≡ true → some_below n p ≡ true
some_there p n i l h = ⊎_elim (λ (x : some_below n p ≡ true). x) (λ (x : some_below n p ≡ false). absurd (true≢false (sym h ∙ some_absent p n i x l))) (tested (some_below n p))

-- no tag of an empty set is unready
pub none_left : (es : List Entry) (busy : ℕ) → some_unready es busy 0 ≡ false
unfolding some_unready
none_left es busy = some_never (unready_at es busy 0) 32 (λ t l. rw (no_bit t))

-- if the lowest tag of a set that is not empty is unready, some tag is
module _ (n : ℕ) (some : 0 < n) (fits : n < 2 ^ 32) where
  abbrev low : ℕ
  low = lowest n some fits

  pub unready_found : (es : List Entry) (busy : ℕ) → unready (entry_of es low) true (bit_in 32 busy low) ≡ true → some_unready es busy n ≡ true
  unfolding some_unready
  unready_found es busy u = some_there (unready_at es busy n) 32 low (there n some fits).0 (rw (asked n some fits) u)

  -- and else the others decide
  pub ready_passed : (es : List Entry) (busy : ℕ) → unready (entry_of es low) true (bit_in 32 busy low) ≡ false → some_unready es busy n ≡ some_unready es busy (others n some fits)
  unfolding some_unready
  ready_passed es busy u = some_same (unready_at es busy n) (unready_at es busy (others n some fits)) 32 same
    where
      same : (i : ℕ) → i < 32 → unready_at es busy n i ≡ unready_at es busy (others n some fits) i
      same i l =
          ⊎_elim
          (λ (x : eqb i low ≡ true). rw (eqb-true i low x, asked n some fits, dropped n some fits) u)
          (λ (x : eqb i low ≡ false). ap (λ (b : Bool). unready (entry_of es i) b (bit_in 32 busy i)) (kept n some fits i l (eqb-false i low x)))
          (tested (eqb i low))
