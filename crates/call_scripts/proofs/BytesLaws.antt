-- The bytes of the words behind a place.
use Rattle.std.proofs.Common.{◌≡◌, ℕ, ◌+◌, ◌<◌, ◌≤◌, List, ◌++◌, drop, drop-cons, length, length-append, get_or, Option, Some, None, refl, sym, ◌∙◌, ap, arith, add-one, map, append_assoc, append-nil}
use Rattle.std.proofs.lemmas.List.{drop_all}
use Rattle.call_scripts.specs.Bytes.{word_bytes, joined, all_bytes, few}

joined_on : (a b : List ℕ) (o : Option (List ℕ)) → joined (Some a) (joined (Some b) o) ≡ joined (Some (a ++ b)) o
joined_on a b None = refl
joined_on a b (Some c) = ap Some (sym (append_assoc a b c))

-- bytes only grow: more than a line may tell, they stay so
many_stay : (done : List ℕ) (o : Option (List ℕ)) → 16384 < length done → few (joined (Some done) o) ≡ None
many_stay done None h = refl
many_stay done (Some more) h = let l = length-append done more in grind arith

module _ {A : Type 0} (f : A → List ℕ) (words : List A) (i : ℕ) (done : List ℕ) (so_far : all_bytes (map f words) ≡ joined (Some done) (all_bytes (map f (drop i words)))) where
  next : (word : A) → i < length words → word ≡ get_or words i word → all_bytes (map f (drop i words)) ≡ joined (word_bytes (f word)) (all_bytes (map f (drop (i + 1) words)))
  unfolding all_bytes
  next word h e = rw (add-one i, drop-cons words i word h, ← e) refl

  -- a word tells bytes
  pub bytes_on : (word : A) (more : List ℕ) → i < length words → word ≡ get_or words i word → word_bytes (f word) ≡ Some more → all_bytes (map f words) ≡ joined (Some (done ++ more)) (all_bytes (map f (drop (i + 1) words)))
  bytes_on word more h e t = so_far ∙ ap (joined (Some done)) (next word h e ∙ ap (λ r. joined r (all_bytes (map f (drop (i + 1) words)))) t) ∙ joined_on done more (all_bytes (map f (drop (i + 1) words)))

  -- and with them there are too many
  pub bytes_many : (word : A) (more : List ℕ) → i < length words → word ≡ get_or words i word → word_bytes (f word) ≡ Some more → 16384 < length (done ++ more) → None ≡ few (all_bytes (map f words))
  bytes_many word more h e t l = sym (ap few (bytes_on word more h e t) ∙ many_stay (done ++ more) (all_bytes (map f (drop (i + 1) words))) l)

  -- a word tells none
  pub bytes_bad : (word : A) → i < length words → word ≡ get_or words i word → word_bytes (f word) ≡ None → None ≡ few (all_bytes (map f words))
  bytes_bad word h e t = sym (ap few (so_far ∙ ap (joined (Some done)) (next word h e ∙ ap (λ r. joined r (all_bytes (map f (drop (i + 1) words)))) t)))

  -- there are no more words
  pub bytes_all : length words ≤ i → length done ≤ 16384 → Some done ≡ few (all_bytes (map f words))
  unfolding all_bytes
  bytes_all h l = let e : all_bytes (map f words) ≡ Some done = so_far ∙ ap (λ (l : List A). joined (Some done) (all_bytes (map f l))) (drop_all i words h) ∙ ap Some (append-nil done) in rw e (grind arith)
