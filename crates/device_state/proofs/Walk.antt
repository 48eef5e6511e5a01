-- A walk over a table, place by place, tests every place.
use Rattle.std.proofs.Common.{◌≡◌, refl, sym, ap, ap₂, ◌∙◌, Bool, ◌||◌, List, [], ◌∷◌, ℕ, zero, suc, ◌+◌, ◌<◌, length, get_or, arith, suc-le-suc, zero-lt-suc}
use Rattle.std.proofs.Math.Bool.{or-false, or_assoc}
use Rattle.std.specs.List.{list_any, enumerate_from}
use Rattle.device_state.specs.Table.{some_below}

-- some number below n + 1 is so: 0, or one behind it
some_front : (p : ℕ → Bool) (n : ℕ) → some_below (suc n) p ≡ p 0 || some_below n (λ i. p (suc i))
unfolding some_below
some_front p zero = sym (or-false (p 0))
some_front p (suc n) = ap (λ (b : Bool). b || p (suc n)) (some_front p n) ∙ or_assoc (p 0) (some_below n (λ i. p (suc i))) (p (suc n))

-- tests of the elements by their places from k on, each as p says of the place
pub some_walked : {A : Type 0} (f : ℕ × A → Bool) (p : ℕ → Bool) (d : A) (l : List A) (k : ℕ)
    → ((i : ℕ) → i < length l → f (k + i, get_or l i d) ≡ p i) → list_any f (enumerate_from k l) ≡ some_below (length l) p
unfolding some_below
some_walked f p d [] k h = refl
some_walked f p d (e ∷ l) k h =
    let here : f (k, e) ≡ p 0 = ap (λ (j : ℕ). f (j, e)) (omega arith) ∙ h 0 (zero-lt-suc (length l)) in
    let others : list_any f (enumerate_from (k + 1) l) ≡ some_below (length l) (λ i. p (suc i)) =
    some_walked f (λ i. p (suc i)) d l (k + 1)
    (λ i m. ap (λ (j : ℕ). f (j, get_or l i d)) (omega arith) ∙ h (suc i) (suc-le-suc m)) in
    ap₂ (λ (a b : Bool). a || b) here others ∙ sym (some_front p (length l))

-- tests of all the elements of a table of n places, each as p says of the place
pub some_placed : {A : Type 0} (f : ℕ × A → Bool) (p : ℕ → Bool) (d : A) (l : List A) {n : ℕ} → length l ≡ n
    → ((i : ℕ) → f (i, get_or l i d) ≡ p i) → list_any f (enumerate_from 0 l) ≡ some_below n p
some_placed f p d l e h =
    some_walked f p d l 0 (λ i m. ap (λ (j : ℕ). f (j, get_or l i d)) (omega arith) ∙ h i) ∙ ap (λ (k : ℕ). some_below k p) e
