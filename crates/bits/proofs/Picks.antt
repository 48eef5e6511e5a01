-- Laws of `pick` and of tests.
use Rattle.std.proofs.Common.{◌≡◌, refl, sym, Bool, true, false, not, ◌&&◌, ◌||◌, ℕ, arith, ◌⊎◌, inl, inr, ⊎_elim, ltb, leb, lt-ltb, le-ltb, leb-true, leb-false}
use Rattle.bits.specs.Pick.{pick}

-- what holds of either of two, each under what the test then says, holds of the one that is picked
pub by_test : {A : Type 0} (P : A → Type 0) (b : Bool) (x y : A) → (b ≡ true → P x) → (b ≡ false → P y) → P (pick b x y)
by_test P true x y t f = t refl
by_test P false x y t f = f refl

pub pick_yes : {A : Type 0} (b : Bool) (x y : A) → b ≡ true → pick b x y ≡ x
pick_yes b x y e = rw e

pub pick_no : {A : Type 0} (b : Bool) (x y : A) → b ≡ false → pick b x y ≡ y
pick_no b x y e = rw e

-- a test is true or false
pub tested : (b : Bool) → (b ≡ true) ⊎ (b ≡ false)
tested true = inl refl
tested false = inr refl

-- both of two tests hold
pub and_left : (a b : Bool) → a && b ≡ true → a ≡ true
and_left true b e = refl
and_left false b e = e

pub and_right : (a b : Bool) → a && b ≡ true → b ≡ true
and_right true b e = e
and_right false b e = absurd (let z : ◌≡◌ {A = ℕ} 0 1 = cc in omega arith)

-- neither of two tests holds
pub or_left : (a b : Bool) → a || b ≡ false → a ≡ false
or_left true b e = e
or_left false b e = refl

pub or_right : (a b : Bool) → a || b ≡ false → b ≡ false
or_right true true e = e
or_right true false e = refl
or_right false b e = e

-- less than is not at most, the other way round
pub not_leb : (a b : ℕ) → not (leb a b) ≡ ltb b a
not_leb a b = ⊎_elim (λ (t : leb a b ≡ true). rw t (sym (le-ltb b a (leb-true a b t)))) (λ (t : leb a b ≡ false). rw t (sym (lt-ltb b a (leb-false a b t)))) (tested (leb a b))
