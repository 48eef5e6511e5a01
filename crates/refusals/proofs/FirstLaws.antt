-- The law of refusals: what `first_of` gives is given exactly when it should be.
use Rattle.std.proofs.Common.{◌≡◌, refl, sym, ap, Bool, true, false, not, List, [], ◌∷◌, ℕ, zero, suc, ◌<◌, length, get_or, Option, Some, None, Result, Ok, Err, suc-le-suc, not-suc-le-zero, le_of_suc-le-suc, zero-lt-suc, T, eqb, eq-eqb}
use Rattle.bits.proofs.Picks.{by_test}
use Rattle.bits.proofs.Tables.{both_left, both_right}
use Rattle.refusals.specs.Number.{number}
use Rattle.refusals.specs.declared.reasons.Refusal.{Refusal}
use Rattle.refusals.specs.First.{Rung, first_of, unless, refusal_in, no_rung, Iff, NoneBefore, FirstExactly, fresh, apart, rung}

differ : (m n : Refusal) → T (not (eqb (number m) (number n))) → m ≡ n → ⊥
differ m n t e = rw (eq-eqb (number m) (number n) (ap number e)) at t

true_false : true ≡ false → ⊥
true_false e = cc

none_some : (n : Refusal) → None ≡ Some n → ⊥
none_some n e = cc

-- where no rung has the refusal, it is not given
not_given : (n : Refusal) (rs : List Rung) → T (fresh n rs) → Some n ≡ first_of rs → ⊥
unfolding first_of
not_given n [] t e = none_some n (sym e)
not_given n (r ∷ rs) t e =
    by_test (λ (x : Option Refusal). Some n ≡ x → ⊥) r.0 (Some r.1) (first_of rs)
    (λ _ q. differ n r.1 (both_left (not (eqb (number n) (number r.1))) (fresh n rs) t) cc)
    (λ _. not_given n rs (both_right (not (eqb (number n) (number r.1))) (fresh n rs) t)) e

fresh_at : (n : Refusal) (rs : List Rung) → T (fresh n rs) → (k : ℕ) → k < length rs → Some n ≡ Some (get_or rs k no_rung).1 → ⊥
fresh_at n [] t k h e = not-suc-le-zero h
fresh_at n (r ∷ rs) t zero h e = differ n r.1 (both_left (not (eqb (number n) (number r.1))) (fresh n rs) t) cc
fresh_at n (r ∷ rs) t (suc k) h e = fresh_at n rs (both_right (not (eqb (number n) (number r.1))) (fresh n rs) t) k (le_of_suc-le-suc h) e

module _ (n : Refusal) (rs : List Rung) where
  abbrev front : Bool → List Rung
  front b = rung n b ∷ rs

  -- a rung that does not hold in front of others that do not
  one_more : (k : ℕ) → NoneBefore rs k → NoneBefore (front false) (suc k)
  one_more k h zero l = refl
  one_more k h (suc j) l = h j (le_of_suc-le-suc l)

  taken_each : T (fresh n rs) → (k : ℕ) → k < suc (length rs) → Iff (Some n ≡ Some (get_or (front true) k no_rung).1) (((get_or (front true) k no_rung).0 ≡ true) × NoneBefore (front true) k)
  taken_each f zero h = (λ _. (refl, λ j l. absurd (not-suc-le-zero l)), λ _. refl)
  taken_each f (suc k) h = (λ e. absurd (fresh_at n rs f k (le_of_suc-le-suc h) e), λ p. absurd (true_false (p.1 0 (zero-lt-suc k))))

  passed_each : T (fresh n rs) → FirstExactly rs (first_of rs) → (k : ℕ) → k < suc (length rs)
      → Iff (first_of rs ≡ Some (get_or (front false) k no_rung).1) (((get_or (front false) k no_rung).0 ≡ true) × NoneBefore (front false) k)
  passed_each f i zero h = (λ e. absurd (not_given n rs f (sym e)), λ p. absurd (true_false (sym p.0)))
  passed_each f i (suc k) h =
      let e = i.each k (le_of_suc-le-suc h) in
      (λ g. let p = e.0 g in (p.0, one_more k p.1), λ p. e.1 (p.0, λ j l. p.1 (suc j) (suc-le-suc l)))

  one_rung : (b : Bool) → T (fresh n rs) → FirstExactly rs (first_of rs) → FirstExactly (front b) (first_of (front b))
  unfolding first_of
  one_rung true f i = record {
    each = taken_each f;
    none = (λ e. absurd (none_some n (sym e)), λ p. absurd (true_false (p 0 (zero-lt-suc (length rs)))));
    other = λ h. absurd (h 0 (zero-lt-suc (length rs)) refl);
  }
  one_rung false f i = record {
    each = passed_each f i;
    none = (λ e. one_more (length rs) (i.none.0 e), λ p. i.none.1 (λ j l. p (suc j) (suc-le-suc l)));
    other = λ h. i.other (λ k l. h (suc k) (suc-le-suc l));
  }

-- each refusal exactly when its test holds and none in front of it does; none exactly when none holds; no other
pub first_exactly : (rs : List Rung) → T (apart rs) → FirstExactly rs (first_of rs)
unfolding first_of
first_exactly [] t = record { each = λ k h. absurd (not-suc-le-zero h); none = (λ e j h. absurd (not-suc-le-zero h), λ p. refl); other = λ h. refl }
first_exactly (r ∷ rs) t =
    one_rung r.1 rs r.0 (both_left (fresh r.1 rs) (apart rs) t)
    (first_exactly rs (both_right (fresh r.1 rs) (apart rs) t))

-- what an answer is refused with is what it was refused with
pub refusal_in_unless : {A : Type 0} (o : Option Refusal) (a : A) → refusal_in (unless o a) ≡ o
refusal_in_unless None a = refl
refusal_in_unless (Some r) a = refl

-- an answer that is a refusal was refused so, and one that is none was not
pub unless_err : {A : Type 0} (o : Option Refusal) (a : A) (r : Refusal) → Err r ≡ unless o a → o ≡ Some r
unless_err None a r e = cc
unless_err (Some q) a r e = cc

pub unless_ok : {A : Type 0} (o : Option Refusal) (a b : A) → Ok b ≡ unless o a → (o ≡ None) × (b ≡ a)
unless_ok None a b e = (refl, cc)
unless_ok (Some q) a b e = cc

-- what holds of a refusal and of what is answered, each where it is given, holds of the answer
pub by_unless : {A : Type 0} (P : Result A Refusal → Type 0) (o : Option Refusal) (a : A) → ((r : Refusal) → o ≡ Some r → P (Err r)) → (o ≡ None → P (Ok a)) → P (unless o a)
by_unless P None a e k = k refl
by_unless P (Some r) a e k = e r refl
