-- A list of tests, each with its refusal: the refusal of the first that holds.
use Rattle.std.specs.Prelude.{◌≡◌, Bool, true, false, ◌&&◌, not, List, [], ◌∷◌, ℕ, ◌<◌, eqb, length, get_or, Option, Some, None, Result, Ok, Err}
use Rattle.bits.specs.Pick.{pick}
use Rattle.refusals.specs.Number.{number}
use Rattle.refusals.specs.declared.reasons.Refusal.{Refusal}
use Rattle.refusals.specs.declared.reasons.Refusal.TheVariants.{Contradiction}

-- a test, and the refusal that is given where it holds
abbrev pub Rung : Type 0
Rung = Bool × Refusal

-- a refusal, and its test
abbrev pub rung : Refusal → Bool → Rung
rung r t = (t, r)

-- the refusal of the first rung that holds, or none where none does [first-number] [exactly]
unfoldable pub first_of : List Rung → Option Refusal
first_of [] = None
first_of (r ∷ rs) = pick r.0 (Some r.1) (first_of rs)

-- what is answered, unless it is refused [exactly]
abbrev pub unless : {A : Type 0} → Option Refusal → A → Result A Refusal
unless None a = Ok a
unless (Some r) a = Err r

-- what an answer was refused with, if it was
abbrev pub refusal_in : {A : Type 0} → Result A Refusal → Option Refusal
refusal_in (Ok a) = None
refusal_in (Err r) = Some r

-- what stands past the end of a list of rungs
abbrev pub no_rung : Rung
no_rung = rung Contradiction false

-- each way round
abbrev pub Iff : Type 0 → Type 0 → Type 0
Iff A B = (A → B) × (B → A)

-- no rung in front of the k-th holds
abbrev pub NoneBefore : List Rung → ℕ → Type 0
NoneBefore rs k = (j : ℕ) → j < k → (get_or rs j no_rung).0 ≡ false

-- `given` is each rung's refusal exactly when that rung holds and none in front of it does, none exactly when none holds, and never another [exactly]
pub record FirstExactly (rs : List Rung) (given : Option Refusal) : Type 0 where
  pub each : (k : ℕ) → k < length rs → Iff (given ≡ Some (get_or rs k no_rung).1) (((get_or rs k no_rung).0 ≡ true) × NoneBefore rs k)
  pub none : Iff (given ≡ None) (NoneBefore rs (length rs))
  pub other : ((k : ℕ) → k < length rs → given ≡ Some (get_or rs k no_rung).1 → ⊥) → given ≡ None

-- the refusal has another number than each of the rungs
abbrev pub fresh : Refusal → List Rung → Bool
fresh n [] = true
fresh n (r ∷ rs) = not (eqb (number n) (number r.1)) && fresh n rs

-- all rungs have numbers of their own
abbrev pub apart : List Rung → Bool
apart [] = true
apart (r ∷ rs) = fresh r.1 rs && apart rs
