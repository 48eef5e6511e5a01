-- Which sample stands for an hour: of hours that do not fall, the last that is no later, where it is of that hour.
use Rattle.std.proofs.Common.{◌≡◌, refl, sym, ap, ◌∙◌, ℕ, zero, suc, ◌-◌, ◌<◌, ◌≤◌, Bool, true, false, leb, eqb, List, [], ◌∷◌, length, get_or, take, length-take-le, filter, map, Option, Some, None, arith, zero-lt-suc, suc-le-suc, le_of_suc-le-suc, not-suc-le-zero, ne_eqb, eqb-true, leb-true, leb-false, ltb, ltb-true, ltb-false, eq-eqb, ⊎_elim}
use Rattle.std.proofs.lemmas.List.{get_or_default, get_or-take}
use Rattle.std.proofs.lemmas.Bool.{eqb-false}
use Rattle.std.specs.List.{last_or}
use Rattle.std.specs.List.Sorted.{IsNonDecreasingBy, IsPartitionPoint}
use Rattle.std.specs.Bool.{then_some}
use Rattle.std.specs.Borrow.{Bor}
use Rattle.std.specs.Option.{option_map}
use Rattle.std.specs.Prelude.{slice_get}
use Rattle.std.proofs.lemmas.Option.{slice_get_within, get_or_from_slice_get}
use Rattle.bits.proofs.Picks.{tested}
use Rattle.hourly_table.specs.Samples.{Sampled, sampled, page_of_hour, page_before}
use Rattle.hourly_table.specs.declared.samples.Sample.{Sample}

none_past : {A : Type 0} (xs : List A) (k : ℕ) → None ≡ slice_get xs k → length xs ≤ k
none_past [] k e = omega arith
none_past (x ∷ xs) zero e = absurd (let z : None ≡ Some x = e in cc)
none_past (x ∷ xs) (suc k) e = suc-le-suc (none_past xs k e)

module _ {A B : Type 0} (p : B → Bool) (f : A → B) where
  -- where none passes there is no last one
  pub none_passes : (o : Option B) (xs : List A) → ((k : ℕ) (d : A) → k < length xs → p (f (get_or xs k d)) ≡ false) → last_or o (filter p (map f xs)) ≡ o
  none_passes o [] none = refl
  none_passes o (x ∷ xs) none = rw (none 0 x (zero-lt-suc (length xs))) (none_passes o xs (λ k d h. none (suc k) d (suc-le-suc h)))

  -- the last that passes
  pub last_passes : (o : Option B) (xs : List A) (i : ℕ) (d : A) → i < length xs → p (f (get_or xs i d)) ≡ true
      → ((k : ℕ) (d : A) → i < k → k < length xs → p (f (get_or xs k d)) ≡ false) → last_or o (filter p (map f xs)) ≡ Some (f (get_or xs i d))
  last_passes o [] i d h t none = absurd (not-suc-le-zero h)
  last_passes o (x ∷ xs) zero d h t none = rw t (none_passes (Some (f x)) xs (λ k e l. none (suc k) e (zero-lt-suc k) (suc-le-suc l)))
  last_passes o (x ∷ xs) (suc i) d h t none =
      ⊎_elim
      (λ (y : p (f x) ≡ true). rw y (last_passes (Some (f x)) xs i d (le_of_suc-le-suc h) t (λ k e l m. none (suc k) e (suc-le-suc l) (suc-le-suc m))))
      (λ (n : p (f x) ≡ false). rw n (last_passes o xs i d (le_of_suc-le-suc h) t (λ k e l m. none (suc k) e (suc-le-suc l) (suc-le-suc m))))
      (tested (p (f x)))

abbrev hour_of : Sample → ℕ
hour_of s = s.hour

abbrev of_hour : ℕ → Sampled → Bool
of_hour hour s = eqb s.hour hour

-- the samples are parted at i: those in front are no later than the hour, and those behind are later
abbrev pub Parted : List Sample → ℕ → ℕ → Type 0
Parted samples hour i = IsPartitionPoint (λ (s : Sample). leb s.hour hour ≡ true) (λ (s : Sample). leb s.hour hour ≡ false) samples i

module _ (samples : List Sample) (hour i : ℕ) (parted : Parted samples hour i) where
  later : (k : ℕ) (d : Sample) → i ≤ k → k < length samples → eqb (get_or samples k d).hour hour ≡ false
  later k d h l =
      let b = leb-false (get_or samples k d).hour hour (parted.1 k d h l) in
      ne_eqb (get_or samples k d).hour hour (λ (e : (get_or samples k d).hour ≡ hour). omega arith)

  -- no sample is early enough
  pub none_stands : i ≡ 0 → page_of_hour (map sampled samples) hour ≡ None
  unfolding page_of_hour
  none_stands z = rw (none_passes (of_hour hour) sampled None samples (λ k d h. later k d (omega arith) h)) refl

  -- the last that is early enough is of the hour
  pub last_stands : (d : Sample) → 0 < i → i ≤ length samples → (get_or samples (i - 1) d).hour ≡ hour → page_of_hour (map sampled samples) hour ≡ Some (get_or samples (i - 1) d).page.now
  unfolding page_of_hour
  last_stands d h l e =
      rw (last_passes (of_hour hour) sampled None samples (i - 1) d (omega arith) (eq-eqb (get_or samples (i - 1) d).hour hour e) (λ k x g m. later k x (omega arith) m)) refl

  -- or is of an earlier one
  pub earlier_stands_not : IsNonDecreasingBy hour_of samples → (d : Sample) → 0 < i → i ≤ length samples → ((get_or samples (i - 1) d).hour ≡ hour → ⊥) → page_of_hour (map sampled samples) hour ≡ None
  unfolding page_of_hour
  earlier_stands_not sorted d h l ne =
      let last = leb-true (get_or samples (i - 1) d).hour hour (parted.0 (i - 1) d (omega arith) (omega arith)) in
      rw (none_passes (of_hour hour) sampled None samples (λ k x m.
      ⊎_elim
      (λ (b : ltb k i ≡ true).
      let s = sorted k (i - 1) x (omega (arith, ltb-true k i b)) (omega arith) in
      let same : (get_or samples (i - 1) x).hour ≡ (get_or samples (i - 1) d).hour = ap hour_of (get_or_default samples (i - 1) x d (omega arith)) in
      ne_eqb (get_or samples k x).hour hour (λ (e : (get_or samples k x).hour ≡ hour). ne (omega arith)))
      (λ (b : ltb k i ≡ false). later k x (ltb-false k i b) m)
      (tested (ltb k i)))) refl

  module _ (part : List Sample) (front : part ≡ take i samples) (within : i ≤ length samples) where
    length_part : length part ≡ i
    length_part = ap length front ∙ length-take-le i samples within

    -- what is told of the last of those that are early enough, where there is none
    pub none_last : None ≡ slice_get part (length part - 1) → None ≡ page_of_hour (map sampled samples) hour
    none_last e = sym (none_stands (omega (arith, none_past part (length part - 1) e, length_part)))

    -- and where there is one
    pub some_last : IsNonDecreasingBy hour_of samples → (s : Sample) → Some s ≡ slice_get part (length part - 1)
        → option_map (λ (page : Bor (List ℕ)). page.now) (then_some (eqb s.hour hour) s.page) ≡ page_of_hour (map sampled samples) hour
    some_last sorted s e =
        let inside : length part - 1 < length part = slice_get_within part (length part - 1) s (sym e) in
        let there : get_or part (length part - 1) s ≡ s = get_or_from_slice_get part (length part - 1) s s (sym e) in
        let some : 0 < i = omega (arith, length_part, inside) in
        let same : get_or samples (i - 1) s ≡ s = sym (get_or-take i samples (i - 1) s (omega (arith, length_part, inside))) ∙ ap (λ (l : List Sample). get_or l (i - 1) s) (sym front) ∙ ap (λ (n : ℕ). get_or part (n - 1) s) (sym length_part) ∙ there in
        ⊎_elim
        (λ (t : eqb s.hour hour ≡ true).
        rw t (ap (λ (x : Sample). Some x.page.now) (sym same) ∙ sym (last_stands s some within (ap hour_of same ∙ eqb-true s.hour hour t))))
        (λ (n : eqb s.hour hour ≡ false).
        rw n (sym (earlier_stands_not sorted s some within (λ e. eqb-false s.hour hour n (sym (ap hour_of same) ∙ e)))))
        (tested (eqb s.hour hour))

-- ---- the page of the hour before

pub before_none : (samples : List Sampled) (hour : ℕ) → hour ≡ 0 → None ≡ page_before samples hour
unfolding page_before
before_none samples hour e = rw e refl

pub before_some : (samples : List Sampled) (hour before : ℕ) → 1 ≤ hour → before ≡ hour - 1 → page_of_hour samples before ≡ page_before samples hour
unfolding page_before
before_some samples zero before h e = absurd (omega arith)
before_some samples (suc hour) before h e = ap (page_of_hour samples) (omega arith)
