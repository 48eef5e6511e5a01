-- Laws of amounts: each row counts by itself, and in any order.
use Rattle.std.proofs.Common.{◌≡◌, refl, sym, ap, ◌∙◌, true, false, eqb, eqb-true, List, [], ◌∷◌, ⊎_elim, ℕ, zero, suc, ◌+◌, ◌≤◌, ◌<◌, length, get_or, get_or-set_same, get_or-set_other, set, take, replicate, add-one, arith}
use lib.ListN.{get_or-eq_default}
use Rattle.std.proofs.lemmas.List.{set_past, get_or-replicate}
use Rattle.std.proofs.lemmas.Bool.{cases_lt}
use borrow.Author.Tests.{eqb-false}
use Rattle.bits.specs.Pick.{pick}
use Rattle.bits.proofs.Picks.{pick_yes, pick_no, tested}
use Rattle.counters.specs.Counts.{next_count, tallied, single}

pub length_tallied : (vs ns : List ℕ) → length (tallied vs ns) ≡ length vs
unfolding tallied
length_tallied vs [] = refl
length_tallied [] (n ∷ ns) = refl
length_tallied (v ∷ vs) (n ∷ ns) = ap suc (length_tallied vs ns)

-- each row has its own amount more
pub tallied_at : (vs ns : List ℕ) (k : ℕ) → k < length vs → get_or (tallied vs ns) k 0 ≡ next_count (get_or vs k 0) (get_or ns k 0)
unfolding tallied
tallied_at vs [] k h = refl
tallied_at [] (n ∷ ns) k h = elim h [ ]
tallied_at (v ∷ vs) (n ∷ ns) zero h = refl
tallied_at (v ∷ vs) (n ∷ ns) (suc k) h = tallied_at vs ns k (omega arith)

-- a row with no amount stays, in a list of any length
pub tallied_none : (vs ns : List ℕ) (k : ℕ) → get_or ns k 0 ≡ 0 → get_or (tallied vs ns) k 0 ≡ get_or vs k 0
unfolding tallied
tallied_none vs [] k e = refl
tallied_none [] (n ∷ ns) k e = refl
tallied_none (v ∷ vs) (n ∷ ns) zero e = rw e
tallied_none (v ∷ vs) (n ∷ ns) (suc k) e = tallied_none vs ns k e

-- the amounts of no row, and those of one more
pub tallied_start : (vs : List ℕ) → vs ≡ tallied vs []
unfolding tallied
tallied_start vs = refl

one_more : (vs ns : List ℕ) (k : ℕ) → k < length vs → k < length ns → set (tallied vs (take k ns)) k (next_count (get_or (tallied vs (take k ns)) k 0) (get_or ns k 0)) ≡ tallied vs (take (suc k) ns)
unfolding tallied
one_more [] ns k h l = elim h [ ]
one_more (v ∷ vs) [] k h l = elim l [ ]
one_more (v ∷ vs) (n ∷ ns) zero h l = refl
one_more (v ∷ vs) (n ∷ ns) (suc k) h l = ap (λ (xs : List ℕ). next_count v n ∷ xs) (one_more vs ns k (omega arith) (omega arith))

pub tallied_more : (vs ns : List ℕ) (k : ℕ) → k < length vs → k < length ns → set (tallied vs (take k ns)) k (next_count (get_or (tallied vs (take k ns)) k 0) (get_or ns k 0)) ≡ tallied vs (take (k + 1) ns)
tallied_more vs ns k h l = rw (add-one k) (one_more vs ns k h l)

zeros_at : (k : ℕ) → get_or (replicate {A = ℕ} 16 0) k 0 ≡ 0
zeros_at k = ⊎_elim (λ (u : k < 16). get_or-replicate 16 k 0 0 u) (λ (u : 16 ≤ k). get_or-eq_default (replicate 16 0) 0 u) (cases_lt k 16)

-- one event at its row
pub single_here : (row : ℕ) → row < 16 → get_or (single row) row 0 ≡ 1
single_here row h = get_or-set_same (replicate 16 0) row 1 0 h

-- and none at another
pub single_other : (row k : ℕ) → (k ≡ row → ⊥) → get_or (single row) k 0 ≡ 0
single_other row k n = get_or-set_other (replicate 16 0) row k 1 0 n ∙ zeros_at k

-- one event at a row, by rows
pub single_at : (row k : ℕ) → k < 16 → get_or (single row) k 0 ≡ pick (eqb k row) 1 0
single_at row k u =
    ⊎_elim
    (λ (t : eqb k row ≡ true). (let e = eqb-true k row t in rw e (single_here row (rw (← e) u))) ∙ sym (pick_yes (eqb k row) 1 0 t))
    (λ (f : eqb k row ≡ false). single_other row k (eqb-false k row f) ∙ sym (pick_no (eqb k row) 1 0 f))
    (tested (eqb k row))

-- more, and then more, is as much more as both
pub next_next : (v a b : ℕ) → next_count (next_count v a) b ≡ next_count v (a + b)
next_next v a b = grind arith

-- no event of a row above 15
pub single_none : (row : ℕ) → 16 ≤ row → single row ≡ replicate 16 0
single_none row h = set_past (replicate 16 0) row 1 h
