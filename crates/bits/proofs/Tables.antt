-- Laws of tables: a mask's ones counted against a table, and a rule of every number below a bound.
use Rattle.std.proofs.Common.{◌≡◌, sym, ap, ap₂, ◌∙◌, subst, List, [], ◌∷◌, ⊎_elim, Bool, true, false, ◌&&◌, ℕ, zero, suc, ◌+◌, ◌/◌, ◌%◌, ◌^◌, ◌<◌, suc-le-suc, not-suc-le-zero, eq-or-lt_of_le, div-one, zero-lt-suc, le_of_suc-le-suc, add-one, T, shr_lt, length, get_or}
use lib.Arith.{lt-one}
use lib.Count.{ones, ones_step}
use Rattle.std.specs.List.{sum_by}
use Rattle.std.proofs.lemmas.Nat.Bits.{bit_at-suc}
use Rattle.std.proofs.lemmas.List.Sums.{sum_by-cons}

-- ---- counts: `ones m` is the sum of what the elements of a list say, where each says bit i of m
pub ones_tied : {A : Type 0} (f : A → ℕ) (d : A) (xs : List A) (m : ℕ) → m < 2 ^ length xs
    → ((i : ℕ) → i < length xs → m / 2 ^ i % 2 ≡ f (get_or xs i d)) → ones m ≡ sum_by f xs
unfolding ones
ones_tied f d [] m h e = ap ones (lt-one h)
ones_tied f d (x ∷ xs) m h e =
    ones_step m
    ∙ ap₂ (λ (a b : ℕ). a + b) (ap (λ (n : ℕ). n % 2) (sym (div-one m)) ∙ e 0 (zero-lt-suc (length xs)))
    (ones_tied f d xs (m / 2) (shr_lt (length xs) 1 (rw add-one h))
    (λ i hi. sym (bit_at-suc m i) ∙ e (suc i) (suc-le-suc hi)))
    ∙ sym (sum_by-cons f x xs)

-- ---- a rule of every number below n, by a test that antt computes
abbrev pub all_below : ℕ → (ℕ → Bool) → Bool
all_below zero p = true
all_below (suc n) p = p n && all_below n p

pub both_left : (a b : Bool) → T (a && b) → T a
both_left true b t = tt
both_left false b t = t

pub both_right : (a b : Bool) → T (a && b) → T b
both_right true b t = t
both_right false b t = absurd t

pub below_all : (n : ℕ) (p : ℕ → Bool) → T (all_below n p) → (k : ℕ) → k < n → T (p k)
below_all zero p t k h = absurd (not-suc-le-zero h)
below_all (suc n) p t k h =
    ⊎_elim (λ e. subst (λ (x : ℕ). T (p x)) (sym e) (both_left (p n) (all_below n p) t))
    (λ l. below_all n p (both_right (p n) (all_below n p) t) k l) (eq-or-lt_of_le (le_of_suc-le-suc h))
