-- Which sample a refusal is about: of samples and of their values the same.
use Rattle.std.proofs.Common.{◌≡◌, refl, sym, ap, ◌∙◌, ℕ, ◌+◌, ◌<◌, Bool, true, false, List, [], ◌∷◌, length, drop, map, arith, ⊎_elim, IfSome, Option, Some, None}
use Rattle.std.proofs.lemmas.List.{length-map}
use Rattle.std.specs.List.{zip, position, position_or_len}
use Rattle.std.proofs.lemmas.List.Quantifiers.{position-Some}
use Rattle.std.proofs.lemmas.Slice.Zip.{length-zip}
use Rattle.bits.proofs.Picks.{tested}
use Rattle.hourly_table.specs.Samples.{Sampled, sampled}
use Rattle.hourly_table.specs.Places.{lower}
use Rattle.hourly_table.specs.declared.samples.Sample.{Sample}
use Rattle.hourly_table.proofs.Asking.{falls_at}

module _ {A B : Type 0} (p : B → Bool) (f : A → B) where
  len-map : (xs : List A) → position_or_len p (map f xs) ≡ position_or_len (λ x. p (f x)) xs
  len-map [] = refl
  len-map (x ∷ xs) = ⊎_elim (λ (y : p (f x) ≡ true). rw y refl) (λ (o : p (f x) ≡ false). rw o (ap (λ n. 1 + n) (len-map xs))) (tested (p (f x)))

  pub position-map : (xs : List A) → position p (map f xs) ≡ position (λ x. p (f x)) xs
  position-map xs = rw (len-map xs, length-map xs) refl

-- a pair of samples, and of their values
abbrev both : Sample × Sample → Sampled × Sampled
both pair = (sampled pair.0, sampled pair.1)

zip-map : (xs ys : List Sample) → zip (map sampled xs) (map sampled ys) ≡ map both (zip xs ys)
zip-map [] ys = refl
zip-map (x ∷ xs) [] = refl
zip-map (x ∷ xs) (y ∷ ys) = ap (λ zs. (sampled x, sampled y) ∷ zs) (zip-map xs ys)

next-map : (samples : List Sample) → zip (map sampled samples) (drop 1 (map sampled samples)) ≡ map both (zip samples (drop 1 samples))
next-map [] = refl
next-map (x ∷ xs) = zip-map (x ∷ xs) xs

pub fall-map : (samples : List Sample) → position lower (zip (map sampled samples) (drop 1 (map sampled samples))) ≡ position falls_at (zip samples (drop 1 samples))
fall-map samples = ap (position lower) (next-map samples) ∙ position-map lower both (zip samples (drop 1 samples))

-- a place is one of the list
pub place_inside : {A : Type 0} (p : A → Bool) (xs : List A) (o : Option ℕ) → o ≡ position p xs → IfSome o (λ k. k < length xs)
place_inside p xs None e = tt
place_inside p [] (Some k) e = absurd (cc)
place_inside p (x ∷ xs) (Some k) e = let there : position p (x ∷ xs) ≡ Some k = sym e in (position-Some p (x ∷ xs) k x there).0

-- the sample that a fall goes to stands behind another
pub fall_inside : (samples : List Sample) (o : Option ℕ) → o ≡ position falls_at (zip samples (drop 1 samples)) → IfSome o (λ k. k + 1 < length samples)
fall_inside samples None e = tt
fall_inside [] (Some k) e = absurd (cc)
fall_inside (x ∷ xs) (Some k) e =
    let there : position falls_at (zip (x ∷ xs) xs) ≡ Some k = sym e in
    let b = (position-Some falls_at (zip (x ∷ xs) xs) k (x, x) there).0 in
    let l = length-zip (x ∷ xs) xs in
    omega arith
