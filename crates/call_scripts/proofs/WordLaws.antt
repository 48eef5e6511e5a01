-- What a line asks for.
use Rattle.std.proofs.Common.{◌≡◌, ℕ, ◌||◌, ◌+◌, ◌<◌, List, [], ◌∷◌, drop, drop-cons, length, get_or, refl, sym, ap, ◌∙◌, add-one, map, min}
use Rattle.std.proofs.lemmas.List.{drop-map, drop_min}
use Rattle.bits.specs.Pick.{pick}
use Rattle.call_scripts.specs.Wanted.{is_arrow, has_arrow}
use Rattle.call_scripts.specs.Words.{asked_text, ends_at}

-- the text behind a place: it ends there, or has one byte more
pub text_next : (i : ℕ) (l : List ℕ) → i < length l → asked_text (drop i l) ≡ pick (ends_at (get_or l i 0) (drop (i + 1) l)) [] (get_or l i 0 ∷ asked_text (drop (i + 1) l))
unfolding asked_text
text_next i l h = rw (add-one i, drop-cons l i 0 h) refl

-- an arrow stands at a place, or further on
pub arrow_next : (i : ℕ) (l : List ℕ) → i < length l → has_arrow (drop i l) ≡ (is_arrow (drop i l) || has_arrow (drop (i + 1) l))
unfolding has_arrow
arrow_next i l h = rw (add-one i, drop-cons l i 0 h) refl

-- the words behind a place, as texts
pub texts_behind : {X : Type 0} (f : X → List ℕ) (n : ℕ) (xs : List X) → map f (drop (min n (length xs)) xs) ≡ drop n (map f xs)
texts_behind f n xs = ap (λ l. map f l) (drop_min n xs) ∙ sym (drop-map f n xs)
