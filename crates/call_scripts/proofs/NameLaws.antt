-- What a word names by the rows behind a place.
use Rattle.std.proofs.Common.{◌≡◌, ℕ, ◌+◌, ◌<◌, ◌≤◌, List, drop, drop-cons, length, get_or, Some, None, refl, sym, ◌∙◌, ap, add-one, map, true, false}
use Rattle.std.proofs.lemmas.List.{drop_all}
use Rattle.std.specs.Str.{bytes_eq}
use Rattle.bits.specs.Pick.{pick}
use Rattle.call_scripts.specs.Names.{named_in}

module _ {A T : Type 0} (f : A → List ℕ × T) (rows : List A) (i : ℕ) (word : List ℕ) (so_far : named_in (map f rows) word ≡ named_in (map f (drop i rows)) word) where
  next : (row : A) → i < length rows → row ≡ get_or rows i row → named_in (map f (drop i rows)) word ≡ pick (bytes_eq word (f row).0) (Some (f row).1) (named_in (map f (drop (i + 1) rows)) word)
  unfolding named_in
  next row h e = rw (add-one i, drop-cons rows i row h, ← e) refl

  -- the row of a place has the name
  pub named_here : (row : A) → i < length rows → row ≡ get_or rows i row → bytes_eq word (f row).0 ≡ true → Some (f row).1 ≡ named_in (map f rows) word
  named_here row h e t = sym (so_far ∙ next row h e ∙ ap (λ b. pick b (Some (f row).1) (named_in (map f (drop (i + 1) rows)) word)) t)

  -- or it has not
  pub named_on : (row : A) → i < length rows → row ≡ get_or rows i row → bytes_eq word (f row).0 ≡ false → named_in (map f rows) word ≡ named_in (map f (drop (i + 1) rows)) word
  named_on row h e t = so_far ∙ next row h e ∙ ap (λ b. pick b (Some (f row).1) (named_in (map f (drop (i + 1) rows)) word)) t

  -- and no row has it
  pub named_nowhere : length rows ≤ i → None ≡ named_in (map f rows) word
  unfolding named_in
  named_nowhere h = sym (so_far ∙ ap (λ (l : List A). named_in (map f l) word) (drop_all i rows h))
