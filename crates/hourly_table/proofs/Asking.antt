-- The tests over samples and numbers: the first that holds, and a page that is refused behind the others is damaged.
use Rattle.std.proofs.Common.{◌≡◌, refl, sym, ap, ap₂, ◌∙◌, ℕ, Bool, true, false, not, ◌||◌, eqb, length, List, [], ◌∷◌, map, drop, ltb, is_err, Result, Ok, Err}
use Rattle.std.specs.List.{list_any, zip}
use Rattle.bits.proofs.Picks.{or_left, or_right}
use Rattle.refusals.specs.First.{first_of}
use Rattle.refusals.specs.declared.reasons.Refusal.TheVariants.{PageLength, PageSum, PageDamaged, NoCounter}
use Rattle.pages.specs.Sum.{sum256}
use Rattle.pages.specs.Entries.{entries}
use Rattle.pages.specs.Read11.{any_fault, damaged, no_number, read_counter}
use Rattle.pages.specs.Others11.{count_others}
use Rattle.hourly_table.specs.Samples.{sampled}
use Rattle.hourly_table.specs.Reading.{page_refused}
use Rattle.hourly_table.specs.Refused.{wrong_length, wrong_sum, damaged_for, hour_falls, input_tests, first_refusal, unless_refused}
use Rattle.hourly_table.specs.declared.samples.Sample.{Sample}
use Rattle.hourly_table.specs.declared.reasons.TableRefusal.{TableRefusal}
use Rattle.hourly_table.specs.declared.reasons.TableRefusal.TheVariants.{Reading, HourBackwards}

pub list_any-map : {A B : Type 0} (p : B → Bool) (f : A → B) (xs : List A) → list_any p (map f xs) ≡ list_any (λ x. p (f x)) xs
list_any-map p f [] = refl
list_any-map p f (x ∷ xs) = ap (λ b. p (f x) || b) (list_any-map p f xs)

-- ---- a page that is 512 bytes long and whose sum is right

module _ (page : List ℕ) (long : not (eqb (length page) 512) ≡ false) (summed : not (eqb (sum256 page) 0) ≡ false) where
  others_refused : (faulty : Bool) → any_fault (entries page) ≡ faulty → is_err (count_others page) ≡ faulty
  unfolding count_others first_of
  others_refused true e = rw (long, summed, e) refl
  others_refused false e = rw (long, summed, e) refl

  number_refused : (number : ℕ) → no_number number ≡ false → (twice : Bool) → damaged number (entries page) ≡ twice → is_err (read_counter page number) ≡ twice
  unfolding read_counter first_of
  number_refused number known true e = rw (long, known, summed, e) refl
  number_refused number known false e = rw (long, known, summed, e) refl

  numbers_refused : (numbers : List ℕ) → list_any no_number numbers ≡ false
      → list_any (λ n. is_err (read_counter page n)) numbers ≡ list_any (λ n. damaged n (entries page)) numbers
  numbers_refused [] known = refl
  numbers_refused (n ∷ ns) known =
      ap₂ (λ a b. a || b) (number_refused n (or_left (no_number n) (list_any no_number ns) known) (damaged n (entries page)) refl)
      (numbers_refused ns (or_right (no_number n) (list_any no_number ns) known))

  page_damaged : (numbers : List ℕ) → list_any no_number numbers ≡ false → page_refused numbers page ≡ any_fault (entries page) || list_any (λ n. damaged n (entries page)) numbers
  page_damaged numbers known = ap₂ (λ a b. a || b) (others_refused (any_fault (entries page)) refl) (numbers_refused numbers known)

abbrev pub long_wrong : Sample → Bool
long_wrong s = wrong_length (sampled s)

abbrev pub sum_wrong : Sample → Bool
sum_wrong s = wrong_sum (sampled s)

-- of such pages just those are refused that are damaged
pub refused_damaged : (numbers : List ℕ) → list_any no_number numbers ≡ false → (samples : List Sample) → list_any long_wrong samples ≡ false → list_any sum_wrong samples ≡ false
    → list_any (λ (s : Sample). page_refused numbers s.page.now) samples ≡ list_any (λ (s : Sample). damaged_for numbers (sampled s)) samples
refused_damaged numbers known [] long summed = refl
refused_damaged numbers known (s ∷ ss) long summed =
    ap₂ (λ a b. a || b)
    (page_damaged s.page.now (or_left (long_wrong s) (list_any long_wrong ss) long) (or_left (sum_wrong s) (list_any sum_wrong ss) summed) numbers known)
    (refused_damaged numbers known ss (or_right (long_wrong s) (list_any long_wrong ss) long) (or_right (sum_wrong s) (list_any sum_wrong ss) summed))

-- ---- hours of samples

abbrev pub falls_at : Sample × Sample → Bool
falls_at pair = ltb pair.1.hour pair.0.hour

falls_zip : (xs ys : List Sample) → list_any (λ pair. ltb pair.1.hour pair.0.hour) (zip (map sampled xs) (map sampled ys)) ≡ list_any falls_at (zip xs ys)
falls_zip [] ys = refl
falls_zip (x ∷ xs) [] = refl
falls_zip (x ∷ xs) (y ∷ ys) = ap (λ b. ltb y.hour x.hour || b) (falls_zip xs ys)

pub falls_map : (samples : List Sample) → hour_falls (map sampled samples) ≡ list_any falls_at (zip samples (drop 1 samples))
falls_map [] = refl
falls_map (x ∷ xs) = falls_zip (x ∷ xs) xs

-- ---- the first test that holds

module _ (samples : List Sample) (numbers : List ℕ) where
  -- what the code is to answer
  abbrev answer : Result (Unit {0}) TableRefusal
  answer = unless_refused (first_refusal (input_tests (map sampled samples) numbers)) (tt {0})

  pub first_20 : list_any long_wrong samples ≡ true → Err (Reading PageLength) ≡ answer
  unfolding first_refusal
  first_20 t = rw (list_any-map wrong_length sampled samples, t) refl

  module _ (long : list_any long_wrong samples ≡ false) where
    pub first_23 : list_any no_number numbers ≡ true → Err (Reading NoCounter) ≡ answer
    unfolding first_refusal
    first_23 t = rw (list_any-map wrong_length sampled samples, long, t) refl

    module _ (known : list_any no_number numbers ≡ false) where
      pub first_21 : list_any sum_wrong samples ≡ true → Err (Reading PageSum) ≡ answer
      unfolding first_refusal
      first_21 t = rw (list_any-map wrong_length sampled samples, long, known, list_any-map wrong_sum sampled samples, t) refl

      module _ (summed : list_any sum_wrong samples ≡ false) where
        whole_of : (b : Bool) → list_any (λ (s : Sample). page_refused numbers s.page.now) samples ≡ b → list_any (damaged_for numbers) (map sampled samples) ≡ b
        whole_of b e = list_any-map (damaged_for numbers) sampled samples ∙ sym (refused_damaged numbers known samples long summed) ∙ e

        pub first_22 : list_any (λ (s : Sample). page_refused numbers s.page.now) samples ≡ true → Err (Reading PageDamaged) ≡ answer
        unfolding first_refusal
        first_22 t = rw (list_any-map wrong_length sampled samples, long, known, list_any-map wrong_sum sampled samples, summed, whole_of true t) refl

        module _ (whole : list_any (λ (s : Sample). page_refused numbers s.page.now) samples ≡ false) where
          pub first_70 : list_any falls_at (zip samples (drop 1 samples)) ≡ true → Err HourBackwards ≡ answer
          unfolding first_refusal
          first_70 t = rw (list_any-map wrong_length sampled samples, long, known, list_any-map wrong_sum sampled samples, summed, whole_of false whole, falls_map samples, t) refl

          pub first_none : list_any falls_at (zip samples (drop 1 samples)) ≡ false → Ok tt ≡ answer
          unfolding first_refusal
          first_none t = rw (list_any-map wrong_length sampled samples, long, known, list_any-map wrong_sum sampled samples, summed, whole_of false whole, falls_map samples, t) refl
