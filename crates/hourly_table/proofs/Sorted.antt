-- Hours of which none is lower than the one before it.
use Rattle.std.proofs.Common.{◌≡◌, sym, ◌∙◌, ℕ, zero, suc, ◌<◌, ◌≤◌, Bool, false, ltb, ltb-false, List, [], ◌∷◌, length, get_or, map, drop, add-one, arith, lit<, None}
use Rattle.std.specs.List.{list_any, zip}
use Rattle.std.specs.List.Sorted.{IsNonDecreasingBy}
use Rattle.std.proofs.lemmas.List.Sorted.{IsNonDecreasingBy-from_all_adjacent}
use Rattle.bits.proofs.Picks.{or_left, or_right}
use Rattle.hourly_table.specs.Samples.{Sampled, sampled}
use Rattle.hourly_table.specs.Refused.{input_tests, first_refusal}
use Rattle.hourly_table.specs.declared.samples.Sample.{Sample}
use Rattle.hourly_table.proofs.Asking.{falls_map}
use Rattle.hourly_table.proofs.Firsts.{none_held}

abbrev pub hour_of : Sample → ℕ
hour_of s = s.hour

-- no neighbour falls
module _ {A : Type 0} (hour : A → ℕ) where
  abbrev lower : A × A → Bool
  lower pair = ltb (hour pair.1) (hour pair.0)

  risen : (x : A) (xs : List A) → list_any lower (zip (x ∷ xs) xs) ≡ false → (k : ℕ) (d : A) → suc k < suc (length xs) → hour (get_or (x ∷ xs) k d) ≤ hour (get_or (x ∷ xs) (suc k) d)
  risen x [] e k d h = absurd (omega arith)
  risen x (y ∷ ys) e zero d h = ltb-false (hour y) (hour x) (or_left (ltb (hour y) (hour x)) (list_any lower (zip (y ∷ ys) ys)) e)
  risen x (y ∷ ys) e (suc k) d h = risen y ys (or_right (ltb (hour y) (hour x)) (list_any lower (zip (y ∷ ys) ys)) e) k d (omega arith)

  no_fall : (xs : List A) → list_any lower (zip xs (drop 1 xs)) ≡ false → IsNonDecreasingBy hour xs
  no_fall [] e = λ i j d h l. absurd (omega arith)
  no_fall (x ∷ xs) e = IsNonDecreasingBy-from_all_adjacent hour (x ∷ xs) (λ k d h. rw add-one (risen x xs e k d (omega arith)))

-- so it is of samples that are not refused
pub sorted : (samples : List Sample) (numbers : List ℕ) → first_refusal (input_tests (map sampled samples) numbers) ≡ None → IsNonDecreasingBy hour_of samples
sorted samples numbers e =
    no_fall hour_of samples (sym (falls_map samples) ∙ none_held (input_tests (map sampled samples) numbers) e 4 (lit< tt))

-- and of their values
pub rising : (samples : List Sampled) (numbers : List ℕ) → first_refusal (input_tests samples numbers) ≡ None → IsNonDecreasingBy (λ (s : Sampled). s.hour) samples
rising samples numbers e = no_fall (λ (s : Sampled). s.hour) samples (none_held (input_tests samples numbers) e 4 (lit< tt))
