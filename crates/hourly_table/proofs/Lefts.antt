-- What is left of a room, a text behind the other.
use Rattle.std.proofs.Common.{◌≡◌, refl, sym, ap, ◌∙◌, ℕ, ◌+◌, ◌-◌, ◌<◌, ◌≤◌, true, false, leb, List, [], ◌∷◌, ◌++◌, append-nil, length, get_or, take, drop, Option, Some, None, arith, leb-true, leb-false, le-leb, ⊎_elim, length-append, take_all, take-append-drop}
use borrow.Author.Tests.{lt-leb}
use Rattle.std.specs.List.{flat_map, range_with_len}
use Rattle.std.proofs.lemmas.List.FromFn.{length-range_with_len, get_or-range_with_len}
use Rattle.std.proofs.lemmas.Grind.{flat_map-append}
use Rattle.std.proofs.lemmas.List.{take_more}
use Rattle.bits.proofs.Picks.{tested}
use Rattle.hourly_table.specs.Room.{left_of}

pub left_yes : (room : ℕ) (text : List ℕ) → length text ≤ room → left_of room text ≡ Some (room - length text)
unfolding left_of
left_yes room text h = rw (le-leb (length text) room h) refl

pub left_no : (room : ℕ) (text : List ℕ) → room < length text → left_of room text ≡ None
unfolding left_of
left_no room text h = rw (lt-leb (length text) room h) refl

pub left_nothing : (room : ℕ) → Some room ≡ left_of room []
left_nothing room = ap Some (omega arith) ∙ sym (left_yes room [] (omega arith))

-- what the code finds by a subtraction
pub left_by : (room left n : ℕ) (text : List ℕ) → n ≡ length text → (n ≤ room) × (left ≡ room - n) → Some left ≡ left_of room text
left_by room left n text e s = let a = s.0 in let b = s.1 in ap Some (omega arith) ∙ sym (left_yes room text (omega arith))

pub lacks_by : (room n : ℕ) (text : List ℕ) → n ≡ length text → (n ≤ room → ⊥) → None ≡ left_of room text
lacks_by room n text e h = sym (left_no room text (omega arith))

-- what is known where some is left, and where none is
pub record Left (room : ℕ) (text : List ℕ) (left : ℕ) : Type 0 where
  pub fits : length text ≤ room
  pub rest : left ≡ room - length text

pub left_some : (room : ℕ) (text : List ℕ) (left : ℕ) → Some left ≡ left_of room text → Left room text left
left_some room text left e =
    ⊎_elim
    (λ (t : leb (length text) room ≡ true).
    let h = leb-true (length text) room t in
    let s : Some left ≡ Some (room - length text) = e ∙ left_yes room text h in
    record { fits = h; rest = cc })
    (λ (f : leb (length text) room ≡ false). absurd (let s : Some left ≡ None = e ∙ left_no room text (leb-false (length text) room f) in cc))
    (tested (leb (length text) room))

pub left_none : (room : ℕ) (text : List ℕ) → None ≡ left_of room text → room < length text
left_none room text e =
    ⊎_elim
    (λ (t : leb (length text) room ≡ true). absurd (let s : None ≡ Some (room - length text) = e ∙ left_yes room text (leb-true (length text) room t) in cc))
    (λ (f : leb (length text) room ≡ false). leb-false (length text) room f)
    (tested (leb (length text) room))

-- what is left behind two texts is what the second leaves of what the first leaves
pub left_more : (room : ℕ) (a b : List ℕ) (left : ℕ) → Some left ≡ left_of room a → left_of left b ≡ left_of room (a ++ b)
left_more room a b left e =
    let l = left_some room a left e in
    let n = length-append a b in
    ⊎_elim
    (λ (t : leb (length b) left ≡ true).
    let h = leb-true (length b) left t in
    left_yes left b h ∙ ap Some (omega (arith, l.fits, l.rest, n)) ∙ sym (left_yes room (a ++ b) (omega (arith, l.fits, l.rest, n))))
    (λ (f : leb (length b) left ≡ false).
    let h = leb-false (length b) left f in
    left_no left b h ∙ sym (left_no room (a ++ b) (omega (arith, l.fits, l.rest, n))))
    (tested (leb (length b) left))

pub left_short : (room : ℕ) (a b : List ℕ) → None ≡ left_of room a → None ≡ left_of room (a ++ b)
left_short room a b e = sym (left_no room (a ++ b) (omega (arith, left_none room a e, length-append a b)))

-- ---- texts of the elements of a list, one behind the other

module _ {X : Type 0} (f : X → List ℕ) (xs : List X) (room : ℕ) where
  pub texts_more : (i : ℕ) (d : X) → i < length xs → flat_map f (take (i + 1) xs) ≡ flat_map f (take i xs) ++ f (get_or xs i d)
  texts_more i d h = rw (take_more xs i d h, flat_map-append f (take i xs) (get_or xs i d ∷ []), append-nil (f (get_or xs i d))) refl

  pub texts_all : (i : ℕ) → flat_map f xs ≡ flat_map f (take i xs) ++ flat_map f (drop i xs)
  texts_all i = ap (flat_map f) (sym (take-append-drop i xs)) ∙ flat_map-append f (take i xs) (drop i xs)

  -- what is left behind the first i of them
  abbrev pub LeftAt : ℕ → ℕ → Type 0
  LeftAt i left = Some left ≡ left_of room (flat_map f (take i xs))

  pub left_step : (i left : ℕ) (d : X) (r : Option ℕ) → i < length xs → LeftAt i left → r ≡ left_of left (f (get_or xs i d)) → r ≡ left_of room (flat_map f (take (i + 1) xs))
  left_step i left d r h a e = e ∙ left_more room (flat_map f (take i xs)) (f (get_or xs i d)) left a ∙ ap (left_of room) (sym (texts_more i d h))

  pub left_stop : (i left : ℕ) (d : X) → i < length xs → LeftAt i left → None ≡ left_of left (f (get_or xs i d)) → None ≡ left_of room (flat_map f xs)
  left_stop i left d h a e = left_short room (flat_map f (take (i + 1) xs)) (flat_map f (drop (i + 1) xs)) (left_step i left d None h a e) ∙ ap (left_of room) (sym (texts_all (i + 1)))

  pub left_end : (i left : ℕ) → length xs ≤ i → LeftAt i left → Some left ≡ left_of room (flat_map f xs)
  left_end i left h a = a ∙ ap (λ l. left_of room (flat_map f l)) (take_all i xs h)

-- ---- of the numbers from one to another

module _ (first last : ℕ) where
  abbrev pub span : List ℕ
  span = range_with_len first (last + 1 - first)

  pub at_hour : (hour : ℕ) → first ≤ hour → hour ≤ last → get_or span (hour - first) 0 ≡ hour
  at_hour hour h l = get_or-range_with_len first (last + 1 - first) (hour - first) 0 (omega arith) ∙ omega arith

  pub in_span : (hour : ℕ) → first ≤ hour → hour ≤ last → hour - first < length span
  in_span hour h l = omega (arith, length-range_with_len first (last + 1 - first))

  -- behind the last hour, also where that is lower than the first
  pub past_span : (hour : ℕ) → last < hour → length span ≤ hour - first
  past_span hour h = omega (arith, length-range_with_len first (last + 1 - first))

module _ (f : ℕ → List ℕ) (first last room : ℕ) where
  pub hour_step : (hour left : ℕ) (r : Option ℕ) → first ≤ hour → hour ≤ last → LeftAt f (span first last) room (hour - first) left → r ≡ left_of left (f hour) → r ≡ left_of room (flat_map f (take (hour + 1 - first) (span first last)))
  hour_step hour left r h l a e =
      let i : (hour - first) + 1 ≡ hour + 1 - first = omega arith in
      left_step f (span first last) room (hour - first) left 0 r (in_span first last hour h l) a (e ∙ ap (λ x. left_of left (f x)) (sym (at_hour first last hour h l)))
      ∙ ap (λ n. left_of room (flat_map f (take n (span first last)))) i

  pub hour_stop : (hour left : ℕ) → first ≤ hour → hour ≤ last → LeftAt f (span first last) room (hour - first) left → None ≡ left_of left (f hour) → None ≡ left_of room (flat_map f (span first last))
  hour_stop hour left h l a e = left_stop f (span first last) room (hour - first) left 0 (in_span first last hour h l) a (e ∙ ap (λ x. left_of left (f x)) (sym (at_hour first last hour h l)))

  -- behind the last hour
  pub hour_last : (hour left left' : ℕ) → first ≤ hour → hour ≡ last → LeftAt f (span first last) room (hour - first) left → Some left' ≡ left_of left (f hour) → Some left' ≡ left_of room (flat_map f (span first last))
  hour_last hour left left' h l a e =
      left_end f (span first last) room (hour + 1 - first) left' (past_span first last (hour + 1) (omega arith)) (hour_step hour left (Some left') h (omega arith) a e)

  -- where the last is lower than the first
  pub hour_none : (hour left : ℕ) → last < hour → LeftAt f (span first last) room (hour - first) left → Some left ≡ left_of room (flat_map f (span first last))
  hour_none hour left l a = left_end f (span first last) room (hour - first) left (past_span first last hour l) a
