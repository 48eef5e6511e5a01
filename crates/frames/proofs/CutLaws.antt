-- The cut of several frames: nothing is lost, and every piece has a byte.
use Rattle.std.proofs.Common.{◌≡◌, refl, sym, ap, ◌∙◌, true, false, List, [], ◌∷◌, ◌++◌, ⊎_elim, ℕ, zero, suc, ◌-◌, ◌≤◌, ◌<◌, arith, eqb, length, get_or, take, drop, length-drop, take-append-drop, eqb-true, ne_eqb, Some, None, unwrap_or}
use borrow.Author.Tests.{eqb-false}
use Rattle.bits.proofs.Picks.{pick_no, tested}
use Rattle.frames.specs.Size.{fixed_size}
use Rattle.frames.specs.Cut.{first_length, cut_to, cut, joined_bytes}

-- no byte fixes a length of nothing
some_length : (byte d : ℕ) → 0 < d → 0 < unwrap_or (fixed_size byte) d
unfolding fixed_size
some_length byte d h = grind arith

-- a piece of what is not empty has a byte, and is not longer than what is there
pub first_length_some : (l : List ℕ) → 0 < length l → (0 < first_length l) × (first_length l ≤ length l)
unfolding first_length
first_length_some l h = let s = some_length (get_or l 0 0) (length l) h in (omega arith, omega arith)

empty : (l : List ℕ) → length l ≡ 0 → l ≡ []
empty [] e = refl
empty (x ∷ l) e = absurd (omega arith)

pub cut_none : (n : ℕ) (l : List ℕ) → length l ≡ 0 → cut_to n l ≡ []
unfolding cut_to
cut_none n l e = grind arith

pub cut_one : (n : ℕ) (l : List ℕ) → (length l ≡ 0 → ⊥) → cut_to (suc n) l ≡ take (first_length l) l ∷ cut_to n (drop (first_length l) l)
unfolding cut_to
cut_one n l e = pick_no (eqb (length l) 0) [] (take (first_length l) l ∷ cut_to n (drop (first_length l) l)) (ne_eqb (length l) 0 e)

all_to : (n : ℕ) (l : List ℕ) → length l ≤ n → joined_bytes (cut_to n l) ≡ l
unfolding cut_to joined_bytes
all_to zero l h = sym (empty l (omega arith))
all_to (suc n) l h =
    ⊎_elim (λ (t : eqb (length l) 0 ≡ true). let e = eqb-true (length l) 0 t in ap joined_bytes (cut_none (suc n) l e) ∙ sym (empty l e))
    (λ (f : eqb (length l) 0 ≡ false).
    let e = eqb-false (length l) 0 f in
    let p = first_length_some l (omega arith) in
    ap joined_bytes (cut_one n l e) ∙ ap (λ (x : List ℕ). take (first_length l) l ++ x) (all_to n (drop (first_length l) l) (omega (arith, length-drop (first_length l) l))) ∙ take-append-drop (first_length l) l)
    (tested (eqb (length l) 0))

-- the pieces one behind the other are what was cut: nothing is lost
pub cut_all : (l : List ℕ) → joined_bytes (cut l) ≡ l
unfolding cut
cut_all l = all_to (length l) l (omega arith)

-- a piece whose kind fixes its length, and one whose kind does not
pub fixed : (k n : ℕ) (l : List ℕ) → get_or l 0 0 ≡ k → fixed_size k ≡ Some n → n ≤ length l → first_length l ≡ n
unfolding first_length
fixed k n l e f h = rw (e, f) (omega arith)

pub unfixed : (k : ℕ) (l : List ℕ) → get_or l 0 0 ≡ k → fixed_size k ≡ None → first_length l ≡ length l
unfolding first_length
unfixed k l e f = rw (e, f) (omega arith)

-- any two numbers of turns that are enough give the same pieces
cut_enough : (m n : ℕ) (l : List ℕ) → length l ≤ m → length l ≤ n → cut_to m l ≡ cut_to n l
cut_enough zero n l h k =
    let e : length l ≡ 0 = omega arith in
    cut_none zero l e ∙ sym (cut_none n l e)
cut_enough (suc m) zero l h k =
    let e : length l ≡ 0 = omega arith in
    cut_none (suc m) l e ∙ sym (cut_none zero l e)
cut_enough (suc m) (suc n) l h k =
    ⊎_elim (λ (t : eqb (length l) 0 ≡ true). let e = eqb-true (length l) 0 t in cut_none (suc m) l e ∙ sym (cut_none (suc n) l e))
    (λ (f : eqb (length l) 0 ≡ false).
    let e = eqb-false (length l) 0 f in
    let p = first_length_some l (omega arith) in
    let d = length-drop (first_length l) l in
    cut_one m l e ∙ ap (λ (x : List (List ℕ)). take (first_length l) l ∷ x) (cut_enough m n (drop (first_length l) l) (omega arith) (omega arith)) ∙ sym (cut_one n l e))
    (tested (eqb (length l) 0))

-- of nothing there is no piece
pub cut_empty : (l : List ℕ) → length l ≡ 0 → cut l ≡ []
unfolding cut
cut_empty l e = cut_none (length l) l e

-- the first piece, and the pieces of what is behind it
pub cut_next : (l : List ℕ) → (length l ≡ 0 → ⊥) → cut l ≡ take (first_length l) l ∷ cut (drop (first_length l) l)
unfolding cut
cut_next l e =
    let p = first_length_some l (omega arith) in
    let d = length-drop (first_length l) l in
    let n : length l ≡ suc (length l - 1) = omega arith in
    ap (λ (k : ℕ). cut_to k l) n ∙ cut_one (length l - 1) l e
    ∙ ap (λ (x : List (List ℕ)). take (first_length l) l ∷ x) (cut_enough (length l - 1) (length (drop (first_length l) l)) (drop (first_length l) l) (omega arith) (omega arith))

-- what the check needs of it
pub ruleset cutting = (cut_empty, cut_next, first_length_some)
