-- The number of the digits so far.
use Rattle.std.proofs.Common.{◌≡◌, ℕ, ◌+◌, ◌*◌, ◌<◌, List, [], ◌∷◌, drop, drop-cons, length, get_or, Option, Some, None, refl, arith, add-one}
use Rattle.std.specs.Option.{option_and_then}
use Rattle.call_scripts.specs.Numbers.{digit_of, number_from, at_most}

-- what tells none behind any digit tells none
none_by : (most : ℕ) (f : ℕ → Option ℕ) (o : Option ℕ) → ((v : ℕ) → at_most most (f v) ≡ None) → at_most most (option_and_then f o) ≡ None
none_by most f None h = refl
none_by most f (Some v) h = h v

-- a number only grows: above the most, more digits tell none
pub above_stays : (most n : ℕ) (cs : List ℕ) → most < n → at_most most (number_from n cs) ≡ None
unfolding number_from
above_stays most n [] h = grind arith
above_stays most n (c ∷ cs) h = none_by most (λ v. number_from (16 * n + v) cs) (digit_of c) (λ v. above_stays most (16 * n + v) cs (omega arith))

-- one digit more
pub digits_next : (n i : ℕ) (w : List ℕ) → i < length w → number_from n (drop i w) ≡ option_and_then (λ v. number_from (16 * n + v) (drop (i + 1) w)) (digit_of (get_or w i 0))
unfolding number_from
digits_next n i w h = rw (add-one i, drop-cons w i 0 h) refl
