-- The first of the tests that holds.
use Rattle.std.proofs.Common.{◌≡◌, refl, true, false, List, [], ◌∷◌, ℕ, zero, suc, ◌<◌, length, get_or, Option, Some, None, suc-le-suc, le_of_suc-le-suc, not-suc-le-zero, zero-lt-suc, ⊎_elim, Ok, Err}
use Rattle.bits.proofs.Picks.{tested}
use Rattle.hourly_table.specs.Refused.{TableTest, no_test, NoneBefore, first_refusal, unless_refused}
use Rattle.hourly_table.specs.declared.reasons.TableRefusal.{TableRefusal}

-- where none holds none is given
pub none_first : (tests : List TableTest) → NoneBefore tests (length tests) → first_refusal tests ≡ None
unfolding first_refusal
none_first [] none = refl
none_first (t ∷ ts) none = rw (none 0 (zero-lt-suc (length ts))) (none_first ts (λ j h. none (suc j) (suc-le-suc h)))

-- the first that holds is given
pub first_held : (tests : List TableTest) (k : ℕ) → k < length tests → (get_or tests k no_test).0 ≡ true → NoneBefore tests k → first_refusal tests ≡ Some (get_or tests k no_test).1
unfolding first_refusal
first_held [] k h t none = absurd (not-suc-le-zero h)
first_held (t ∷ ts) zero h e none = rw e refl
first_held (t ∷ ts) (suc k) h e none = rw (none 0 (zero-lt-suc k)) (first_held ts k (le_of_suc-le-suc h) e (λ j l. none (suc j) (suc-le-suc l)))

-- what is given is that of the first that holds
pub record Held (tests : List TableTest) (refusal : TableRefusal) : Type 0 where
  pub place : ℕ
  pub there : place < length tests
  pub holds : (get_or tests place no_test).0 ≡ true
  pub first : NoneBefore tests place
  pub its : refusal ≡ (get_or tests place no_test).1

before_more : (t : TableTest) (ts : List TableTest) (k : ℕ) → t.0 ≡ false → NoneBefore ts k → NoneBefore (t ∷ ts) (suc k)
before_more t ts k e none zero h = e
before_more t ts k e none (suc j) h = none j (le_of_suc-le-suc h)

pub held : (tests : List TableTest) (refusal : TableRefusal) → first_refusal tests ≡ Some refusal → Held tests refusal
unfolding first_refusal
held [] refusal e = absurd (let z : None ≡ Some refusal = e in cc)
held (t ∷ ts) refusal e =
    ⊎_elim
    (λ (y : t.0 ≡ true).
    let z : Some t.1 ≡ Some refusal = rw y at e in
    record {
      place = 0;
      there = zero-lt-suc (length ts);
      holds = y;
      first = λ j h. absurd (not-suc-le-zero h);
      its = cc;
    })
    (λ (n : t.0 ≡ false).
    let later = held ts refusal (rw n at e) in
    record {
      place = suc later.place;
      there = suc-le-suc later.there;
      holds = later.holds;
      first = before_more t ts later.place n later.first;
      its = later.its;
    })
    (tested t.0)

-- where none is given none holds
pub none_held : (tests : List TableTest) → first_refusal tests ≡ None → NoneBefore tests (length tests)
unfolding first_refusal
none_held [] e = λ j h. absurd (not-suc-le-zero h)
none_held (t ∷ ts) e =
    ⊎_elim
    (λ (y : t.0 ≡ true). absurd (let z : Some t.1 ≡ None = rw y at e in cc))
    (λ (n : t.0 ≡ false). before_more t ts (length ts) n (none_held ts (rw n at e)))
    (tested t.0)

-- what was answered was refused by none
pub passed : {A : Type 0} (o : Option TableRefusal) (a b : A) → Ok b ≡ unless_refused o a → (o ≡ None) × (b ≡ a)
passed None a b e = (refl, cc)
passed (Some r) a b e = cc

pub turned_down : {A : Type 0} (o : Option TableRefusal) (a : A) (r : TableRefusal) → Err r ≡ unless_refused o a → o ≡ Some r
turned_down None a r e = cc
turned_down (Some q) a r e = cc
