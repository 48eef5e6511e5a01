-- Laws of rising numbers, of what is under way, and of the positions that an event carries.
use Rattle.std.proofs.Common.{◌≡◌, refl, ap, ap₂, ◌∙◌, Bool, true, false, not, List, [], ◌∷◌, ◌++◌, append-nil, ℕ, zero, suc, ◌+◌, ◌<◌, zero-add, suc-add, arith, ltb, ne_eqb}
use mathlib.Core.Bool.{false≢true}
use Rattle.bits.specs.Pick.{pick}
use Rattle.bits.proofs.Picks.{by_test}
use Rattle.history.specs.Seen.{Seen, Transfer, no_transfer, under_way}
use Rattle.history.specs.Fates.{outstanding_at, finished_at}
use Rattle.history.specs.Carried.{load, onward, advanced, transfer, span, belongs, positions, carried_at}

-- x + y numbers from a on are x from a on, and then y
pub span_add : (a x y : ℕ) → span a (x + y) ≡ span a x ++ span (a + x) y
unfolding span
span_add a zero y = ap₂ span (omega arith) (zero-add y)
span_add a (suc x) y =
    ap (span a) (suc-add x y) ∙ ap (λ (l : List ℕ). a ∷ l) (span_add (suc a) x y ∙ ap (λ (b : ℕ). span (suc a) x ++ span b y) (omega arith))

-- no numbers
pub span_none : (a : ℕ) → span a 0 ≡ []
unfolding span
span_none a = refl

-- an event carries nothing in either direction
pub record Empty (e : Seen) : Type 0 where
  pub sends : e.sends ≡ 0
  pub brings : e.asks.brings ≡ 0

-- it carries no bytes in whichever direction
pub load_none : (d : Bool) (e : Seen) → Empty e → load d e ≡ 0
load_none d e x = by_test (λ (n : ℕ). n ≡ 0) d e.sends e.asks.brings (λ _. x.sends) (λ _. x.brings)

-- nothing carried: what is under way stays
pub advanced_none : (e : Seen) (x : Transfer) → Empty e → advanced e x ≡ x
advanced_none e no_transfer y = refl
advanced_none e (under_way d t a z) y = rw (load_none d e y)

-- nothing carried: no positions
pub first_length_none : (start : ℕ) (write : Bool) (tag : ℕ) (e : Seen) (x : Transfer) → Empty e → positions start write tag e x ≡ []
first_length_none start write tag e no_transfer y = refl
first_length_none start write tag e (under_way d t a z) y =
    by_test (λ (l : List ℕ). l ≡ []) (belongs write tag d t) (span (start + a) (load d e)) [] (λ _. rw (load_none d e y) (span_none (start + a))) (λ _. refl)

-- something carried: what is under way goes on, or ends
pub onward_some : (k : ℕ) (d : Bool) (t a z : ℕ) → 0 < k → onward k (under_way d t a z) ≡ pick (ltb (a + k) z) (under_way d t (a + k) z) no_transfer
onward_some k d t a z l = grind arith

-- the data of a tag in a command's direction is the command's
pub belongs_own : (w : Bool) (t : ℕ) → belongs w t (not w) t ≡ true
belongs_own w t = grind arith

-- another tag's is not
pub belongs_other : (w d : Bool) (t u : ℕ) → (u ≡ t → ⊥) → belongs w t d u ≡ false
belongs_other w d t u n = rw (ne_eqb u t n)

-- a command's positions, once it is no longer outstanding, stay
pub carried_after : (start : ℕ) (write : Bool) (tag : ℕ) (e : Seen) (n : List Seen) → outstanding_at tag n ≡ false
    → carried_at start write tag (e ∷ n) ≡ carried_at start write tag n
unfolding carried_at
carried_after start write tag e n o = rw o (append-nil (carried_at start write tag n))

-- and grow by an event's positions while it is
pub carried_while : (start : ℕ) (write : Bool) (tag : ℕ) (e : Seen) (n : List Seen) → outstanding_at tag n ≡ true
    → carried_at start write tag (e ∷ n) ≡ carried_at start write tag n ++ positions start write tag e (transfer n)
unfolding carried_at
carried_while start write tag e n o = rw o

-- by nothing at an event that carries nothing
pub carried_none : (start : ℕ) (write : Bool) (tag : ℕ) (e : Seen) (n : List Seen) → Empty e
    → carried_at start write tag (e ∷ n) ≡ carried_at start write tag n
unfolding carried_at
carried_none start write tag e n y =
    let p = first_length_none start write tag e (transfer n) y in
    grind (arith, append-nil {A = ℕ})

-- a finished command is not outstanding
pub finished_over : (t : ℕ) (n : List Seen) → finished_at t n ≡ true → outstanding_at t n ≡ false
unfolding finished_at outstanding_at
finished_over t [] f = absurd (false≢true f)
finished_over t (e ∷ n) f = grind (arith, finished_over t n)
