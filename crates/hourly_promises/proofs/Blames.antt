-- The sample that a refusal is about is the first of which it is so.
use Rattle.std.proofs.Common.{◌≡◌, refl, sym, ap, ap₂, ◌∙◌, subst, ℕ, zero, suc, ◌+◌, ◌==◌, ◌<◌, Bool, true, false, not, ◌||◌, eqb, ne_eqb, ltb, lt-ltb, ltb-true, ltb-false, add-one, drop, List, [], ◌∷◌, length, get_or, Some, Err, arith, lit<, zero-lt-suc, suc-le-suc, is_err, inl, inr, ⊎_elim}
use Rattle.std.specs.List.{list_any, position, position_or_len, zip}
use Rattle.std.specs.Option.{option_map}
use Rattle.std.proofs.lemmas.Grind.{get_or_after_one}
use Rattle.std.proofs.lemmas.List.{length-drop}
use Rattle.std.proofs.lemmas.Slice.Zip.{length-zip, get_or-zip}
use Rattle.std.proofs.lemmas.List.Quantifiers.{position-Some}
use Rattle.bits.proofs.Picks.{tested}
use Rattle.refusals.specs.First.{first_of, refusal_in}
use Rattle.refusals.specs.Number.{number_told}
use Rattle.refusals.specs.declared.reasons.Refusal.TheVariants.{PageLength, PageSum, PageDamaged}
use Rattle.pages.specs.Sum.{sum256}
use Rattle.pages.specs.Entries.{entries}
use Rattle.pages.specs.Read11.{any_fault, damaged, no_number, read_counter}
use Rattle.pages.specs.Others11.{count_others}
use Rattle.hourly_table.specs.Samples.{Sampled}
use Rattle.hourly_table.specs.Refused.{TableTest, no_test, NoneBefore, wrong_length, wrong_sum, damaged_for, first_refusal}
use Rattle.hourly_table.specs.Places.{refused_so, lower, place_of}
use Rattle.hourly_table.specs.Table.{table_tests, table_size}
use Rattle.hourly_table.specs.declared.reasons.TableRefusal.{TableRefusal}
use Rattle.hourly_table.specs.declared.reasons.TableRefusal.TheVariants.{Reading, HourBackwards}
use Rattle.hourly_table.proofs.Firsts.{Held, held, turned_down}
use Rattle.hourly_table.proofs.AllRead.{none_at}
use Rattle.hourly_promises.specs.Firsts.{FirstSo, FirstFall, RefusedFor}

-- ---- the first place at which a test holds

found : {A : Type 0} (p : A → Bool) (xs : List A) → list_any p xs ≡ true → position_or_len p xs < length xs
found p [] e = absurd (let z : false ≡ true = e in cc)
found p (x ∷ xs) e =
    ⊎_elim (λ (y : p x ≡ true). rw y (zero-lt-suc (length xs)))
    (λ (o : p x ≡ false). let later = found p xs (rw o at e) in rw o (omega arith))
    (tested (p x))

-- two tests that say the same of each
pub any_same : {A : Type 0} (p q : A → Bool) (xs : List A) → ((i : ℕ) (d : A) → i < length xs → p (get_or xs i d) ≡ q (get_or xs i d)) → list_any q xs ≡ true → list_any p xs ≡ true
any_same p q [] each e = e
any_same p q (x ∷ xs) each e =
    ⊎_elim (λ (y : p x ≡ true). rw y refl)
    (λ (o : p x ≡ false). let none = sym (each 0 x (zero-lt-suc (length xs))) ∙ o in rw o (any_same p q xs (λ i d h. each (suc i) d (suc-le-suc h)) (rw none at e)))
    (tested (p x))

-- a test that says what it is so of
first_so : (p : Sampled → Bool) (So : Sampled → Type 0) (samples : List Sampled)
    → ((i : ℕ) (d : Sampled) → i < length samples → p (get_or samples i d) ≡ true → So (get_or samples i d))
    → ((i : ℕ) (d : Sampled) → i < length samples → So (get_or samples i d) → p (get_or samples i d) ≡ true)
    → list_any p samples ≡ true → FirstSo samples So (position p samples)
first_so p So samples to from any =
    let k = position_or_len p samples in
    let inside = found p samples any in
    let at : position p samples ≡ Some k = rw (lt-ltb (position_or_len p samples) (length samples) inside) refl in
    record {
      k = k;
      stands = at;
      inside = inside;
      so = λ d. to k d inside (position-Some p samples k d at).1;
      none_before = λ j d h s. let no = (position-Some p samples k d at).2 j h in let yes = from j d (omega arith) s in absurd (let z : true ≡ false = sym yes ∙ no in cc);
    }

-- ---- which refusal a reader gives

none_any : (q : ℕ → Bool) (ns : List ℕ) → ((j : ℕ) → j < length ns → q (get_or ns j 0) ≡ false) → list_any q ns ≡ false
none_any q [] each = refl
none_any q (n ∷ ns) each = rw (each 0 (zero-lt-suc (length ns))) (none_any q ns (λ j h. each (suc j) (suc-le-suc h)))

abbrev others_so : ℕ → List ℕ → Bool
others_so r page = number_told (refusal_in (count_others page)) == r

abbrev number_so : ℕ → List ℕ → ℕ → Bool
number_so r page n = number_told (refusal_in (read_counter page n)) == r

-- of a page of 512 bytes
module _ (page : List ℕ) (long : not (eqb (length page) 512) ≡ false) where
  others_20 : others_so 20 page ≡ false
  unfolding count_others first_of
  others_20 =
      ⊎_elim (λ (y : not (eqb (sum256 page) 0) ≡ true). rw (long, y) refl)
      (λ (o : not (eqb (sum256 page) 0) ≡ false). ⊎_elim (λ (y : any_fault (entries page) ≡ true). rw (long, o, y) refl) (λ (n : any_fault (entries page) ≡ false). rw (long, o, n) refl) (tested (any_fault (entries page))))
      (tested (not (eqb (sum256 page) 0)))

  others_21 : others_so 21 page ≡ not (eqb (sum256 page) 0)
  unfolding count_others first_of
  others_21 =
      ⊎_elim (λ (y : not (eqb (sum256 page) 0) ≡ true). rw (long, y) refl)
      (λ (o : not (eqb (sum256 page) 0) ≡ false). ⊎_elim (λ (y : any_fault (entries page) ≡ true). rw (long, o, y) refl) (λ (n : any_fault (entries page) ≡ false). rw (long, o, n) refl) (tested (any_fault (entries page))))
      (tested (not (eqb (sum256 page) 0)))

  number_20 : (n : ℕ) → number_so 20 page n ≡ false
  unfolding read_counter first_of
  number_20 n =
      ⊎_elim (λ (y : no_number n ≡ true). rw (long, y) refl)
      (λ (k : no_number n ≡ false).
      ⊎_elim (λ (y : not (eqb (sum256 page) 0) ≡ true). rw (long, k, y) refl)
      (λ (o : not (eqb (sum256 page) 0) ≡ false). ⊎_elim (λ (y : damaged n (entries page) ≡ true). rw (long, k, o, y) refl) (λ (m : damaged n (entries page) ≡ false). rw (long, k, o, m) refl) (tested (damaged n (entries page))))
      (tested (not (eqb (sum256 page) 0))))
      (tested (no_number n))

  -- and a right sum
  module _ (summed : not (eqb (sum256 page) 0) ≡ false) where
    fault_22 : others_so 22 page ≡ any_fault (entries page)
    unfolding count_others first_of
    fault_22 = ⊎_elim (λ (y : any_fault (entries page) ≡ true). rw (long, summed, y) refl) (λ (n : any_fault (entries page) ≡ false). rw (long, summed, n) refl) (tested (any_fault (entries page)))

    twice_22 : (n : ℕ) → no_number n ≡ false → number_so 22 page n ≡ damaged n (entries page)
    unfolding read_counter first_of
    twice_22 n known = ⊎_elim (λ (y : damaged n (entries page) ≡ true). rw (long, known, summed, y) refl) (λ (m : damaged n (entries page) ≡ false). rw (long, known, summed, m) refl) (tested (damaged n (entries page)))

    others_22 : is_err (count_others page) ≡ others_so 22 page
    unfolding count_others first_of
    others_22 = ⊎_elim (λ (y : any_fault (entries page) ≡ true). rw (long, summed, y) refl) (λ (n : any_fault (entries page) ≡ false). rw (long, summed, n) refl) (tested (any_fault (entries page)))

    number_21 : (n : ℕ) → no_number n ≡ false → number_so 21 page n ≡ false
    unfolding read_counter first_of
    number_21 n known = ⊎_elim (λ (y : damaged n (entries page) ≡ true). rw (long, known, summed, y) refl) (λ (m : damaged n (entries page) ≡ false). rw (long, known, summed, m) refl) (tested (damaged n (entries page)))

    number_22 : (n : ℕ) → no_number n ≡ false → is_err (read_counter page n) ≡ number_so 22 page n
    unfolding read_counter first_of
    number_22 n known = ⊎_elim (λ (y : damaged n (entries page) ≡ true). rw (long, known, summed, y) refl) (λ (m : damaged n (entries page) ≡ false). rw (long, known, summed, m) refl) (tested (damaged n (entries page)))

short_20 : (page : List ℕ) (numbers : List ℕ) → not (eqb (length page) 512) ≡ true → refused_so PageLength numbers page ≡ true
unfolding count_others first_of
short_20 page numbers short = rw short refl

so_20 : (page : List ℕ) (numbers : List ℕ) → refused_so PageLength numbers page ≡ not (eqb (length page) 512)
so_20 page numbers =
    ⊎_elim (λ (y : not (eqb (length page) 512) ≡ true). short_20 page numbers y ∙ sym y)
    (λ (long : not (eqb (length page) 512) ≡ false). rw (others_20 page long, none_any (number_so 20 page) numbers (λ j h. number_20 page long (get_or numbers j 0))) (sym long))
    (tested (not (eqb (length page) 512)))

so_21 : (page : List ℕ) (numbers : List ℕ) → not (eqb (length page) 512) ≡ false → ((j : ℕ) → j < length numbers → no_number (get_or numbers j 0) ≡ false) → refused_so PageSum numbers page ≡ not (eqb (sum256 page) 0)
so_21 page numbers long known =
    ⊎_elim (λ (y : not (eqb (sum256 page) 0) ≡ true). rw (others_21 page long, y) refl)
    (λ (summed : not (eqb (sum256 page) 0) ≡ false). rw (others_21 page long, none_any (number_so 21 page) numbers (λ j h. number_21 page long summed (get_or numbers j 0) (known j h)), summed) refl)
    (tested (not (eqb (sum256 page) 0)))

any_equal : (p q : ℕ → Bool) (ns : List ℕ) → ((j : ℕ) → j < length ns → p (get_or ns j 0) ≡ q (get_or ns j 0)) → list_any p ns ≡ list_any q ns
any_equal p q [] each = refl
any_equal p q (n ∷ ns) each = ap₂ (λ a b. a || b) (each 0 (zero-lt-suc (length ns))) (any_equal p q ns (λ j h. each (suc j) (suc-le-suc h)))

so_22 : (page : List ℕ) (numbers : List ℕ) → not (eqb (length page) 512) ≡ false → not (eqb (sum256 page) 0) ≡ false → ((j : ℕ) → j < length numbers → no_number (get_or numbers j 0) ≡ false)
    → refused_so PageDamaged numbers page ≡ any_fault (entries page) || list_any (λ n. damaged n (entries page)) numbers
so_22 page numbers long summed known =
    ap₂ (λ a b. a || b) (fault_22 page long summed) (any_equal (number_so 22 page) (λ n. damaged n (entries page)) numbers (λ j h. twice_22 page long summed (get_or numbers j 0) (known j h)))

any_at : (p : ℕ → Bool) (ns : List ℕ) (j : ℕ) → j < length ns → p (get_or ns j 0) ≡ true → list_any p ns ≡ true
any_at p [] j h e = absurd (omega arith)
any_at p (n ∷ ns) zero h e = rw e refl
any_at p (n ∷ ns) (suc j) h e = ⊎_elim (λ (y : p n ≡ true). rw y refl) (λ (o : p n ≡ false). rw o (any_at p ns j (omega arith) e)) (tested (p n))

-- a reader refuses the page of such a sample, by itself or for a number
module _ (page : List ℕ) (numbers : List ℕ) (long : not (eqb (length page) 512) ≡ false) (summed : not (eqb (sum256 page) 0) ≡ false) (known : (j : ℕ) → j < length numbers → no_number (get_or numbers j 0) ≡ false) where
  refused_of : refused_so PageDamaged numbers page ≡ true → RefusedFor numbers page
  refused_of e =
      ⊎_elim (λ (y : others_so 22 page ≡ true). inl (others_22 page long summed ∙ y))
      (λ (o : others_so 22 page ≡ false).
      let any : list_any (number_so 22 page) numbers ≡ true = rw o at e in
      let j = position_or_len (number_so 22 page) numbers in
      let inside = found (number_so 22 page) numbers any in
      let at : position (number_so 22 page) numbers ≡ Some j = rw (lt-ltb (position_or_len (number_so 22 page) numbers) (length numbers) inside) refl in
      inr (j, inside, number_22 page long summed (get_or numbers j 0) (known j inside) ∙ (position-Some (number_so 22 page) numbers j 0 at).1))
      (tested (others_so 22 page))

  of_refused : RefusedFor numbers page → refused_so PageDamaged numbers page ≡ true
  of_refused r =
      elim r [
        | inl e ↦ rw (sym (others_22 page long summed) ∙ e) refl
        | inr n ↦ ⊎_elim (λ (y : others_so 22 page ≡ true). rw y refl)
            (λ (o : others_so 22 page ≡ false). rw o (any_at (number_so 22 page) numbers n.0 n.1 (sym (number_22 page long summed (get_or numbers n.0 0) (known n.0 n.1)) ∙ n.2)))
            (tested (others_so 22 page))
      ]

-- ---- hours of neighbours

abbrev pairs_of : List Sampled → List (Sampled × Sampled)
pairs_of samples = zip samples (drop 1 samples)

pair_at : (samples : List Sampled) (i : ℕ) (d : Sampled) → i < length (pairs_of samples) → (i + 1 < length samples) × (lower (get_or (pairs_of samples) i (d, d)) ≡ ltb (get_or samples (i + 1) d).hour (get_or samples i d).hour)
pair_at samples i d h =
    let l = length-zip samples (drop 1 samples) in
    let m = length-drop 1 samples in
    let inside : i + 1 < length samples = omega arith in
    let next : get_or (drop 1 samples) i d ≡ get_or samples (i + 1) d = get_or_after_one samples i d ∙ ap (λ n. get_or samples n d) (omega arith) in
    let both = get_or-zip samples (drop 1 samples) i (d, d) (omega arith) (omega arith) in
    (inside, ap lower both ∙ ap (λ (s : Sampled). ltb s.hour (get_or samples i d).hour) next)

pair_at_last : (samples : List Sampled) (i : ℕ) → i < length (pairs_of samples) → i + 1 < length samples
pair_at_last samples i h = let l = length-zip samples (drop 1 samples) in let m = length-drop 1 samples in omega arith

-- ---- of the tests the one that held

module _ (samples : List Sampled) (numbers : List ℕ) (room : ℕ) where
  abbrev tests : List TableTest
  tests = table_tests samples numbers room

  holding : (refusal : TableRefusal) → Err refusal ≡ table_size samples numbers room → Held tests refusal
  holding refusal e = held tests refusal (turned_down (first_refusal tests) _ refusal e)

  at_20 : (k : ℕ) → k < 6 → Reading PageLength ≡ (get_or tests k no_test).1 → k ≡ 0
  at_20 zero h e = refl
  at_20 (suc zero) h e = absurd (cc)
  at_20 (suc (suc zero)) h e = absurd (cc)
  at_20 (suc (suc (suc zero))) h e = absurd (cc)
  at_20 (suc (suc (suc (suc zero)))) h e = absurd (cc)
  at_20 (suc (suc (suc (suc (suc zero))))) h e = absurd (cc)
  at_20 (suc (suc (suc (suc (suc (suc k)))))) h e = absurd (omega arith)

  at_21 : (k : ℕ) → k < 6 → Reading PageSum ≡ (get_or tests k no_test).1 → k ≡ 2
  at_21 zero h e = absurd (cc)
  at_21 (suc zero) h e = absurd (cc)
  at_21 (suc (suc zero)) h e = refl
  at_21 (suc (suc (suc zero))) h e = absurd (cc)
  at_21 (suc (suc (suc (suc zero)))) h e = absurd (cc)
  at_21 (suc (suc (suc (suc (suc zero))))) h e = absurd (cc)
  at_21 (suc (suc (suc (suc (suc (suc k)))))) h e = absurd (omega arith)

  pub length_blamed : Err (Reading PageLength) ≡ table_size samples numbers room → FirstSo samples (λ s. length s.page ≡ 512 → ⊥) (place_of samples numbers (Reading PageLength))
  length_blamed e =
      let f = holding (Reading PageLength) e in
      let any : list_any wrong_length samples ≡ true = subst (λ (k : ℕ). (get_or tests k no_test).0 ≡ true) (at_20 f.place f.there f.its) f.holds in
      first_so (λ s. refused_so PageLength numbers s.page) (λ s. length s.page ≡ 512 → ⊥) samples
      (λ i d h t same. let n = sym (so_20 (get_or samples i d).page numbers) ∙ t in absurd (let z : false ≡ true = rw same at n in cc))
      (λ i d h wrong. so_20 (get_or samples i d).page numbers ∙ ap not (ne_eqb (length (get_or samples i d).page) 512 wrong))
      (any_same (λ s. refused_so PageLength numbers s.page) wrong_length samples (λ i d h. so_20 (get_or samples i d).page numbers) any)

  long_all : (k : ℕ) → 0 < k → NoneBefore tests k → (i : ℕ) (d : Sampled) → i < length samples → not (eqb (length (get_or samples i d).page) 512) ≡ false
  long_all k h first i d l = none_at wrong_length samples (first 0 h) i d l

  known_all : (k : ℕ) → 1 < k → NoneBefore tests k → (j : ℕ) → j < length numbers → no_number (get_or numbers j 0) ≡ false
  known_all k h first j l = none_at no_number numbers (first 1 h) j 0 l

  summed_all : (k : ℕ) → 2 < k → NoneBefore tests k → (i : ℕ) (d : Sampled) → i < length samples → not (eqb (sum256 (get_or samples i d).page) 0) ≡ false
  summed_all k h first i d l = none_at wrong_sum samples (first 2 h) i d l

  pub sum_blamed : Err (Reading PageSum) ≡ table_size samples numbers room → FirstSo samples (λ s. sum256 s.page ≡ 0 → ⊥) (place_of samples numbers (Reading PageSum))
  sum_blamed e =
      let f = holding (Reading PageSum) e in
      let at = at_21 f.place f.there f.its in
      let any : list_any wrong_sum samples ≡ true = subst (λ (k : ℕ). (get_or tests k no_test).0 ≡ true) at f.holds in
      let first = subst (λ (k : ℕ). NoneBefore tests k) at f.first in
      let so = λ (i : ℕ) (d : Sampled) (h : i < length samples). so_21 (get_or samples i d).page numbers (long_all 2 (lit< tt) first i d h) (known_all 2 (lit< tt) first) in
      first_so (λ s. refused_so PageSum numbers s.page) (λ s. sum256 s.page ≡ 0 → ⊥) samples
      (λ i d h t same. let n = sym (so i d h) ∙ t in absurd (let z : false ≡ true = rw same at n in cc))
      (λ i d h wrong. so i d h ∙ ap not (ne_eqb (sum256 (get_or samples i d).page) 0 wrong))
      (any_same (λ s. refused_so PageSum numbers s.page) wrong_sum samples so any)

  at_22 : (k : ℕ) → k < 6 → Reading PageDamaged ≡ (get_or tests k no_test).1 → k ≡ 3
  at_22 zero h e = absurd (cc)
  at_22 (suc zero) h e = absurd (cc)
  at_22 (suc (suc zero)) h e = absurd (cc)
  at_22 (suc (suc (suc zero))) h e = refl
  at_22 (suc (suc (suc (suc zero)))) h e = absurd (cc)
  at_22 (suc (suc (suc (suc (suc zero))))) h e = absurd (cc)
  at_22 (suc (suc (suc (suc (suc (suc k)))))) h e = absurd (omega arith)

  pub damage_blamed : Err (Reading PageDamaged) ≡ table_size samples numbers room → FirstSo samples (λ s. RefusedFor numbers s.page) (place_of samples numbers (Reading PageDamaged))
  damage_blamed e =
      let f = holding (Reading PageDamaged) e in
      let at = at_22 f.place f.there f.its in
      let any : list_any (damaged_for numbers) samples ≡ true = subst (λ (k : ℕ). (get_or tests k no_test).0 ≡ true) at f.holds in
      let first = subst (λ (k : ℕ). NoneBefore tests k) at f.first in
      let known = known_all 3 (lit< tt) first in
      first_so (λ s. refused_so PageDamaged numbers s.page) (λ s. RefusedFor numbers s.page) samples
      (λ i d h t. refused_of (get_or samples i d).page numbers (long_all 3 (lit< tt) first i d h) (summed_all 3 (lit< tt) first i d h) known t)
      (λ i d h r. of_refused (get_or samples i d).page numbers (long_all 3 (lit< tt) first i d h) (summed_all 3 (lit< tt) first i d h) known r)
      (any_same (λ s. refused_so PageDamaged numbers s.page) (damaged_for numbers) samples (λ i d h. so_22 (get_or samples i d).page numbers (long_all 3 (lit< tt) first i d h) (summed_all 3 (lit< tt) first i d h) known) any)

  at_70 : (k : ℕ) → k < 6 → HourBackwards ≡ (get_or tests k no_test).1 → k ≡ 4
  at_70 zero h e = absurd (cc)
  at_70 (suc zero) h e = absurd (cc)
  at_70 (suc (suc zero)) h e = absurd (cc)
  at_70 (suc (suc (suc zero))) h e = absurd (cc)
  at_70 (suc (suc (suc (suc zero)))) h e = refl
  at_70 (suc (suc (suc (suc (suc zero))))) h e = absurd (cc)
  at_70 (suc (suc (suc (suc (suc (suc k)))))) h e = absurd (omega arith)

  pub fall_blamed : Err HourBackwards ≡ table_size samples numbers room → FirstFall samples (place_of samples numbers HourBackwards)
  fall_blamed e =
      let f = holding HourBackwards e in
      let any : list_any lower (pairs_of samples) ≡ true = subst (λ (k : ℕ). (get_or tests k no_test).0 ≡ true) (at_70 f.place f.there f.its) f.holds in
      let k = position_or_len lower (pairs_of samples) in
      let inside = found lower (pairs_of samples) any in
      let at : position lower (pairs_of samples) ≡ Some k = rw (lt-ltb (position_or_len lower (pairs_of samples)) (length (pairs_of samples)) inside) refl in
      record {
        k = k;
        stands = rw add-one (ap (option_map suc) at);
        inside = (pair_at_last samples k inside);
        falls = λ d. ltb-true (get_or samples (k + 1) d).hour (get_or samples k d).hour (sym (pair_at samples k d inside).1 ∙ (position-Some lower (pairs_of samples) k (d, d) at).1);
        rises_before = λ j d h. ltb-false (get_or samples (j + 1) d).hour (get_or samples j d).hour (sym (pair_at samples j d (omega arith)).1 ∙ (position-Some lower (pairs_of samples) k (d, d) at).2 j h);
      }
