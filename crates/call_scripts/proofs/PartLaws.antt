-- What stands before and behind a byte, from a place on; and the first line of a text.
use Rattle.std.proofs.Common.{◌≡◌, ℕ, ◌+◌, ◌<◌, Bool, true, false, eqb, List, [], ◌∷◌, drop, drop-cons, length, get_or, refl, ap, add-one, arith}
use Rattle.std.specs.List.{onto_first}
use Rattle.bits.specs.Pick.{pick}
use Rattle.call_scripts.specs.Parts.{before, behind, lines_of}

-- the byte is here, or further on
pub before_next : (b i : ℕ) (l : List ℕ) → i < length l → before b (drop i l) ≡ pick (eqb (get_or l i 0) b) [] (get_or l i 0 ∷ before b (drop (i + 1) l))
unfolding before
before_next b i l h = rw (add-one i, drop-cons l i 0 h) refl

pub behind_next : (b i : ℕ) (l : List ℕ) → i < length l → behind b (drop i l) ≡ pick (eqb (get_or l i 0) b) (drop (i + 1) l) (behind b (drop (i + 1) l))
unfolding behind
behind_next b i l h = rw (add-one i, drop-cons l i 0 h) refl

-- a text of one byte
one : (t : Bool) (c : ℕ) → pick t ([] ∷ lines_of []) (onto_first c (lines_of [])) ≡ pick t [] (c ∷ before 10 []) ∷ lines_of (pick t [] (behind 10 []))
unfolding before behind lines_of
one true c = refl
one false c = refl

-- one byte more in front
more : (t : Bool) (c : ℕ) (cs first rest : List ℕ) → lines_of cs ≡ first ∷ lines_of rest → pick t ([] ∷ lines_of cs) (onto_first c (lines_of cs)) ≡ pick t [] (c ∷ first) ∷ lines_of (pick t cs rest)
more true c cs first rest e = refl
more false c cs first rest e = ap (onto_first c) e

-- the first line of a text ends at the first LF, and the others stand behind that
pub lines_first : (text : List ℕ) → 0 < length text → lines_of text ≡ before 10 text ∷ lines_of (behind 10 text)
unfolding before behind lines_of
lines_first [] h = grind arith
lines_first (c ∷ []) h = one (eqb c 10) c
lines_first (c ∷ d ∷ cs) h = more (eqb c 10) c (d ∷ cs) (before 10 (d ∷ cs)) (behind 10 (d ∷ cs)) (lines_first (d ∷ cs) (omega arith))
