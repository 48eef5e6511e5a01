-- Entries that are cleared one by one.
use Rattle.std.proofs.Common.{◌≡◌, refl, sym, ◌∙◌, true, false, List, ℕ, zero, suc, ◌<◌, ◌^◌, arith, ⊎_elim, eqb, eqb-true, length, set, get_or-set_same, get_or-set_other, ext_get_or}
use borrow.Author.Tests.{eqb-false}
use Rattle.bits.proofs.Masks.{no_bit}
use Rattle.bits.proofs.Picks.{tested}
use Rattle.device_state.specs.State.{zero_entry}
use Rattle.device_state.specs.Table.{tabulation, table_without}
use Rattle.device_state.specs.declared.shapes.Entry.{Entry}
use Rattle.device_state.proofs.Sets.{lowest, others, there, asked, dropped, kept}
use Rattle.device_state.proofs.TableLaws.{cleared_at, length_tab, get_or_tab}

tab_same : {A : Type 0} (f g : ℕ → A) (n : ℕ) → ((i : ℕ) → i < n → f i ≡ g i) → tabulation n f ≡ tabulation n g
unfolding tabulation
tab_same f g zero h = refl
tab_same f g (suc n) h = rw (tab_same f g n (λ i l. h i (omega arith)), h n (omega arith)) refl

-- an empty set clears nothing
pub cleared_none : (es : List Entry) → length es ≡ 32 → table_without es 0 ≡ es
unfolding table_without
cleared_none es h =
    ext_get_or zero_entry (tabulation 32 (cleared_at es 0)) es (length_tab 32 (cleared_at es 0) ∙ sym h)
    (λ i k. let j : i < 32 = rw (length_tab 32 (cleared_at es 0)) at k in rw (get_or_tab 32 (cleared_at es 0) i zero_entry j, no_bit i) refl)

-- the lowest tag's entry is cleared, and the others are still to be
pub cleared_one : (es : List Entry) (n : ℕ) (some : 0 < n) (fits : n < 2 ^ 32) → length es ≡ 32 → table_without es n ≡ table_without (set es (lowest n some fits) zero_entry) (others n some fits)
unfolding table_without
cleared_one es n some fits h = tab_same (cleared_at es n) (cleared_at (set es low zero_entry) (others n some fits)) 32 same
  where
    low : ℕ
    low = lowest n some fits

    same : (i : ℕ) → i < 32 → cleared_at es n i ≡ cleared_at (set es low zero_entry) (others n some fits) i
    same i l =
        ⊎_elim
        (λ (x : eqb i low ≡ true). rw (eqb-true i low x, asked n some fits, dropped n some fits) (sym (get_or-set_same es low zero_entry zero_entry (rw h (there n some fits).0))))
        (λ (x : eqb i low ≡ false). rw (kept n some fits i l (eqb-false i low x), get_or-set_other es low i zero_entry zero_entry (eqb-false i low x)) refl)
        (tested (eqb i low))
