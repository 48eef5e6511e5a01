-- A table is given where nothing is wrong with what it is made from.
use Rattle.std.proofs.Common.{◌≡◌, refl, ap, subst, ℕ, suc, ◌+◌, ◌<◌, ◌≤◌, Bool, true, false, not, eqb, ltb, List, [], ◌∷◌, length, get_or, None, Ok, is_err, arith, le-ltb, zero-lt-suc, suc-le-suc, add-one}
use Rattle.std.specs.List.{list_any, zip}
use Rattle.refusals.specs.First.{first_of, rung, unless}
use Rattle.refusals.specs.declared.reasons.Refusal.TheVariants.{PageLength, PageSum, PageDamaged, NoCounter}
use Rattle.pages.specs.Sum.{sum256}
use Rattle.pages.specs.Entries.{entries}
use Rattle.pages.specs.Read11.{any_fault, damaged, no_number, read_counter, value_in}
use Rattle.pages.specs.Others11.{count_others}
use Rattle.hourly_table.specs.Samples.{Sampled}
use Rattle.hourly_table.specs.Refused.{wrong_length, wrong_sum, damaged_for, hour_falls, refuses, first_refusal, unless_refused}
use Rattle.hourly_table.specs.Table.{table, table_size}
use Rattle.hourly_table.specs.declared.reasons.TableRefusal.TheVariants.{Reading, HourBackwards, TableShort}

-- where each of a list fails a test, none of them passes it
none_any : {A : Type 0} (p : A → Bool) (d : A) (xs : List A) → ((k : ℕ) → k < length xs → p (get_or xs k d) ≡ false) → list_any p xs ≡ false
none_any p d [] h = refl
none_any p d (x ∷ xs) h = rw (h 0 (zero-lt-suc (length xs))) (none_any p d xs (λ k l. h (suc k) (suc-le-suc l)))

none_each : {A : Type 0} (p : A → Bool) (xs : List A) → ((k : ℕ) (d : A) → k < length xs → p (get_or xs k d) ≡ false) → list_any p xs ≡ false
none_each p [] h = refl
none_each p (x ∷ xs) h = none_any p x (x ∷ xs) (λ k l. h k x l)

-- what a page that is accepted has not
passes_three : {A : Type 0} (l s f : Bool) (a : A) → is_err (unless (first_of (rung PageLength l ∷ rung PageSum s ∷ rung PageDamaged f ∷ [])) a) ≡ false → (l ≡ false) × (s ≡ false) × (f ≡ false)
unfolding first_of
passes_three true s f a e = absurd (let z : true ≡ false = e in cc)
passes_three false true f a e = absurd (let z : true ≡ false = e in cc)
passes_three false false true a e = absurd (let z : true ≡ false = e in cc)
passes_three false false false a e = (refl, refl, refl)

passes_four : {A : Type 0} (l n s f : Bool) (a : A) → is_err (unless (first_of (rung PageLength l ∷ rung NoCounter n ∷ rung PageSum s ∷ rung PageDamaged f ∷ [])) a) ≡ false → f ≡ false
unfolding first_of
passes_four true n s f a e = absurd (let z : true ≡ false = e in cc)
passes_four false true s f a e = absurd (let z : true ≡ false = e in cc)
passes_four false false true f a e = absurd (let z : true ≡ false = e in cc)
passes_four false false false true a e = absurd (let z : true ≡ false = e in cc)
passes_four false false false false a e = refl

accepted : (page : List ℕ) → is_err (count_others page) ≡ false → (not (eqb (length page) 512) ≡ false) × (not (eqb (sum256 page) 0) ≡ false) × (any_fault (entries page) ≡ false)
unfolding count_others
accepted page e = passes_three (not (eqb (length page) 512)) (not (eqb (sum256 page) 0)) (any_fault (entries page)) _ e

once : (page : List ℕ) (number : ℕ) → is_err (read_counter page number) ≡ false → damaged number (entries page) ≡ false
unfolding read_counter
once page number e = passes_four (not (eqb (length page) 512)) (no_number number) (not (eqb (sum256 page) 0)) (damaged number (entries page)) (value_in page number (entries page)) e

-- no hour falls
no_falls : (x : Sampled) (xs : List Sampled) → ((k : ℕ) (d : Sampled) → k < length xs → (get_or (x ∷ xs) k d).hour ≤ (get_or xs k d).hour) → list_any (λ pair. ltb pair.1.hour pair.0.hour) (zip (x ∷ xs) xs) ≡ false
no_falls x [] h = refl
no_falls x (y ∷ ys) h = rw (le-ltb y.hour x.hour (h 0 x (zero-lt-suc (length ys)))) (no_falls y ys (λ k d l. h (suc k) d (suc-le-suc l)))

none_falls : (samples : List Sampled) → ((k : ℕ) (d : Sampled) → k + 1 < length samples → (get_or samples k d).hour ≤ (get_or samples (k + 1) d).hour) → hour_falls samples ≡ false
none_falls [] h = refl
none_falls (x ∷ xs) h = no_falls x xs (λ k d l. subst (λ (m : ℕ). (get_or (x ∷ xs) k d).hour ≤ (get_or (x ∷ xs) m d).hour) (add-one k) (h k d (omega arith)))

-- none of the six tests holds
none_of_six : (a b c d e f : Bool) → a ≡ false → b ≡ false → c ≡ false → d ≡ false → e ≡ false → f ≡ false
    → first_refusal (refuses (Reading PageLength) a ∷ refuses (Reading NoCounter) b ∷ refuses (Reading PageSum) c ∷ refuses (Reading PageDamaged) d ∷ refuses HourBackwards e ∷ refuses TableShort f ∷ []) ≡ None
unfolding first_refusal
none_of_six a b c d e f p q r s t u = rw (p, q, r, s, t, u) refl

known_number : (n : ℕ) → 1 ≤ n → n < 4096 → no_number n ≡ false
known_number n low high = rw (le-ltb n 1 low, le-ltb 4095 n (omega arith)) refl

module _ (samples : List Sampled) (numbers : List ℕ) (room : ℕ)
    (low : (j : ℕ) → j < length numbers → 1 ≤ get_or numbers j 0)
    (high : (j : ℕ) → j < length numbers → get_or numbers j 0 < 4096)
    (whole : (i : ℕ) (s : Sampled) → i < length samples → is_err (count_others (get_or samples i s).page) ≡ false)
    (read : (i : ℕ) (s : Sampled) → i < length samples → (j : ℕ) → j < length numbers → is_err (read_counter (get_or samples i s).page (get_or numbers j 0)) ≡ false)
    (rise : (i : ℕ) (s : Sampled) → i + 1 < length samples → (get_or samples i s).hour ≤ (get_or samples (i + 1) s).hour)
    (fits : length (table samples numbers) ≤ room) where
  undamaged : (i : ℕ) (s : Sampled) → i < length samples → damaged_for numbers (get_or samples i s) ≡ false
  undamaged i s h =
      let page = (get_or samples i s).page in
      rw ((accepted page (whole i s h)).2, none_any (λ n. damaged n (entries page)) 0 numbers (λ j l. once page (get_or numbers j 0) (read i s h j l))) refl

  pub table_given : table_size samples numbers room ≡ Ok (length (table samples numbers))
  table_given =
      ap (λ o. unless_refused o (length (table samples numbers)))
      (none_of_six (list_any wrong_length samples) (list_any no_number numbers) (list_any wrong_sum samples) (list_any (damaged_for numbers) samples) (hour_falls samples) (ltb room (length (table samples numbers)))
      (none_each wrong_length samples (λ i s h. (accepted (get_or samples i s).page (whole i s h)).0))
      (none_any no_number 0 numbers (λ j l. known_number (get_or numbers j 0) (low j l) (high j l)))
      (none_each wrong_sum samples (λ i s h. (accepted (get_or samples i s).page (whole i s h)).1))
      (none_each (damaged_for numbers) samples undamaged)
      (none_falls samples rise)
      (le-ltb room (length (table samples numbers)) fits))
