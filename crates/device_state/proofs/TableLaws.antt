-- Laws of tests over a table.
use Rattle.std.proofs.Common.{◌≡◌, refl, sym, ap, ◌∙◌, Bool, true, false, ℕ, zero, suc, ◌+◌, ◌≤◌, ◌<◌, add-one, arith, List, [], ◌∷◌, ⊎_elim, eq-or-lt_of_le, eqb, length, get_or, set, length-append, length-set, ext_get_or, get_or-set_same, get_or-set_other, eqb-true, ne_eqb}
use lib.ListN.{get_or-append}
use lib.Seq.{get_or_at}
use borrow.Author.Tests.{eqb-false}
use Rattle.bits.specs.Pick.{pick}
use Rattle.bits.specs.Bit.{bit_in}
use Rattle.bits.proofs.Picks.{tested, or_left, or_right}
use Rattle.device_state.specs.State.{zero_entry}
use Rattle.device_state.specs.Table.{some_below, tabulation, entry_of, table_with, table_without}
use Rattle.device_state.specs.declared.shapes.Entry.{Entry}

-- none is so
pub some_never : (p : ℕ → Bool) (n : ℕ) → ((i : ℕ) → i < n → p i ≡ false) → some_below n p ≡ false
unfolding some_below
some_never p zero h = refl
some_never p (suc n) h =
    let r = some_never p n (λ i l. h i (omega arith)) in
    let e = h n (omega arith) in
    rw (r, e)

-- and then none is
pub some_absent : (p : ℕ → Bool) (n i : ℕ) → some_below n p ≡ false → i < n → p i ≡ false
unfolding some_below
some_absent p zero i e h = absurd (omega arith)
some_absent p (suc n) i e h =
    ⊎_elim
    (λ q. rw q (or_right (some_below n p) (p n) e))
    (λ k. some_absent p n i (or_left (some_below n p) (p n) e) k)
    (eq-or-lt_of_le {n = i} {m = n} (omega arith))

-- ---- tables by their elements

module _ {A : Type 0} where
  pub length_tab : (n : ℕ) (f : ℕ → A) → length (tabulation n f) ≡ n
  unfolding tabulation
  length_tab zero f = refl
  length_tab (suc n) f = length-append (tabulation n f) (f n ∷ []) ∙ ap (λ (k : ℕ). k + 1) (length_tab n f) ∙ add-one n

  pub get_or_tab : (n : ℕ) (f : ℕ → A) (i : ℕ) (d : A) → i < n → get_or (tabulation n f) i d ≡ f i
  unfolding tabulation
  get_or_tab zero f i d h = absurd (omega arith)
  get_or_tab (suc n) f i d h =
      ⊎_elim
      (λ e. rw e (get_or_at (tabulation n f) (f n) [] d n (length_tab n f)))
      (λ k. let l = length_tab n f in get_or-append (tabulation n f) (f n ∷ []) d i (omega arith) ∙ get_or_tab n f i d k)
      (eq-or-lt_of_le {n = i} {m = n} (omega arith))

-- the table's element at i, anew or as it was
abbrev pub fresher : List Entry → ℕ → Entry → ℕ → Entry
fresher es t e i = pick (eqb i t) e (entry_of es i)

pub entry_of_placed : (es : List Entry) (t : ℕ) (e : Entry) (i : ℕ) → i < 32 → entry_of (table_with es t e) i ≡ fresher es t e i
unfolding table_with
entry_of_placed es t e i h = get_or_tab 32 (fresher es t e) i zero_entry h

-- the table's element at i, idle or as it was
abbrev pub cleared_at : List Entry → ℕ → ℕ → Entry
cleared_at es set i = pick (bit_in 32 set i) zero_entry (entry_of es i)

pub entry_of_cleared : (es : List Entry) (set i : ℕ) → i < 32 → entry_of (table_without es set) i ≡ cleared_at es set i
unfolding table_without
entry_of_cleared es set i h = get_or_tab 32 (cleared_at es set) i zero_entry h

-- a store, and a place where nothing is stored
pub set_placed : (es : List Entry) (t : ℕ) (e : Entry) → length es ≡ 32 → set es t e ≡ table_with es t e
unfolding table_with
set_placed es t e h =
    ext_get_or zero_entry (set es t e) (tabulation 32 (fresher es t e)) (simp length-set (h ∙ sym (length_tab 32 (fresher es t e))))
    (λ i k.
    let j : i < 32 = rw h at (simp length-set at k) in
    ⊎_elim
    (λ (x : eqb i t ≡ true). rw (get_or_tab 32 (fresher es t e) i zero_entry j, x, ← eqb-true i t x) (get_or-set_same es i e zero_entry (rw h j)))
    (λ (x : eqb i t ≡ false). rw (get_or_tab 32 (fresher es t e) i zero_entry j, x) (get_or-set_other es t i e zero_entry (eqb-false i t x)))
    (tested (eqb i t)))

pub none_placed : (es : List Entry) (t : ℕ) (e : Entry) → length es ≡ 32 → 32 ≤ t → es ≡ table_with es t e
unfolding table_with
none_placed es t e h l =
    ext_get_or zero_entry es (tabulation 32 (fresher es t e)) (h ∙ sym (length_tab 32 (fresher es t e)))
    (λ i k.
    let j : i < 32 = rw h at k in
    rw (get_or_tab 32 (fresher es t e) i zero_entry j, ne_eqb i t (λ q. omega arith)))
