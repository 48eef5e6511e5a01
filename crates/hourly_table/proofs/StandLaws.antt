-- Which page stands for an hour.
use Rattle.std.proofs.Common.{◌≡◌, refl, ap, ℕ, zero, suc, ◌<◌, true, false, eqb, List, [], ◌∷◌, ◌++◌, length, get_or, filter, Option, Some, None, arith, ne_eqb, eq-eqb, zero-lt-suc, suc-le-suc, ⊎_elim}
use Rattle.std.specs.List.{last_or}
use Rattle.std.specs.List.Sorted.{IsNonDecreasingBy}
use Rattle.std.specs.Option.{option_map}
use Rattle.bits.proofs.Picks.{tested}
use Rattle.hourly_table.specs.Samples.{Sampled, page_of_hour, page_before}
use Rattle.hourly_table.specs.Refused.{input_tests, first_refusal}
use Rattle.hourly_table.specs.Changes.{change_in}
use Rattle.hourly_table.proofs.Sorted.{rising}
use Rattle.hourly_table.proofs.ChangeLaws.{empty_before}

none_of : (o : Option Sampled) (hour : ℕ) (xs : List Sampled) → ((k : ℕ) (d : Sampled) → k < length xs → (get_or xs k d).hour ≡ hour → ⊥) → last_or o (filter (λ s. eqb s.hour hour) xs) ≡ o
none_of o hour [] none = refl
none_of o hour (x ∷ xs) none =
    rw (ne_eqb x.hour hour (none 0 x (zero-lt-suc (length xs)))) (none_of o hour xs (λ k d h. none (suc k) d (suc-le-suc h)))

last_of : (o : Option Sampled) (hour : ℕ) (xs : List Sampled) (s : Sampled) (ys : List Sampled) → s.hour ≡ hour → ((k : ℕ) (d : Sampled) → k < length ys → (get_or ys k d).hour ≡ hour → ⊥)
    → last_or o (filter (λ s. eqb s.hour hour) (xs ++ s ∷ ys)) ≡ Some s
last_of o hour [] s ys e none = rw (eq-eqb s.hour hour e) (none_of (Some s) hour ys none)
last_of o hour (x ∷ xs) s ys e none =
    ⊎_elim
    (λ (y : eqb x.hour hour ≡ true). rw y (last_of (Some x) hour xs s ys e none))
    (λ (n : eqb x.hour hour ≡ false). rw n (last_of o hour xs s ys e none))
    (tested (eqb x.hour hour))

-- of the samples of an hour the last in the input stands
pub later_stands : (xs : List Sampled) (s : Sampled) (ys : List Sampled) → ((k : ℕ) (d : Sampled) → k < length ys → (get_or ys k d).hour ≡ s.hour → ⊥) → page_of_hour (xs ++ s ∷ ys) s.hour ≡ Some s.page
unfolding page_of_hour
later_stands xs s ys none = ap (option_map (λ s. s.page)) (last_of None s.hour xs s ys refl none)

-- for an hour of which there is no sample none does
pub none_there : (samples : List Sampled) (hour : ℕ) → ((k : ℕ) (d : Sampled) → k < length samples → (get_or samples k d).hour ≡ hour → ⊥) → page_of_hour samples hour ≡ None
unfolding page_of_hour
none_there samples hour none = ap (option_map (λ s. s.page)) (none_of None hour samples none)

-- nor for the one before the first
before_first : (s : Sampled) (ss : List Sampled) → IsNonDecreasingBy (λ (s : Sampled). s.hour) (s ∷ ss) → (hour : ℕ) → hour ≡ s.hour → page_before (s ∷ ss) hour ≡ None
unfolding page_before
before_first s ss rise zero e = refl
before_first s ss rise (suc hour) e =
    none_there (s ∷ ss) hour (λ k d h same. let r = rise 0 k d (omega arith) h in let f : (get_or (s ∷ ss) 0 d).hour ≡ s.hour = refl in omega arith)

pub empty_first : (s : Sampled) (ss : List Sampled) (numbers : List ℕ) (number : ℕ) → first_refusal (input_tests (s ∷ ss) numbers) ≡ None → change_in (s ∷ ss) s.hour number ≡ None
empty_first s ss numbers number e = empty_before (s ∷ ss) s.hour number (before_first s ss (rising (s ∷ ss) numbers e) s.hour refl)
