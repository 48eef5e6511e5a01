-- The number that digits tell, one digit behind the other.
use Rattle.std.proofs.Common.{◌≡◌, refl, sym, ap, ◌∙◌, ℕ, zero, suc, ◌+◌, ◌-◌, ◌*◌, ◌<◌, ◌≤◌, ◌^◌, Bool, true, false, ◌&&◌, leb, List, [], ◌∷◌, length, get_or, drop, Some, None, arith, not-suc-le-zero, le_of_suc-le-suc, zero-lt-suc, suc-le-suc, le-ltb, lt-ltb, le-leb, drop-cons, drop_of_length-le, add-one, leb-true, ⊎_elim}
use Rattle.std.proofs.lemmas.Str.{digit_value_digit}
use Rattle.std.specs.Int.{IsInRange}
use Rattle.bits.proofs.Picks.{tested}
use Rattle.std.specs.Char.{is_ascii_digit, digit_value}
use Rattle.std.specs.Str.{all_ascii_digits}
use Rattle.std.specs.Str.Parse.{digits_value, digits_value_after}
use Rattle.hourly_run.specs.Entries.{hour_of}

and_none : (a : Bool) → a && false ≡ false
and_none true = refl
and_none false = refl

-- one that is none
pub not_all : (ds : List ℕ) (i : ℕ) → i < length ds → is_ascii_digit (get_or ds i 0) ≡ false → all_ascii_digits ds ≡ false
not_all [] i h n = absurd (not-suc-le-zero h)
not_all (d ∷ ds) zero h n = rw n refl
not_all (d ∷ ds) (suc i) h n = rw (not_all ds i (le_of_suc-le-suc h) n) (and_none (is_ascii_digit d))

pub all_of : (ds : List ℕ) → ((k : ℕ) → k < length ds → is_ascii_digit (get_or ds k 0) ≡ true) → all_ascii_digits ds ≡ true
all_of [] each = refl
all_of (d ∷ ds) each = rw (each 0 (zero-lt-suc (length ds))) (all_of ds (λ k h. each (suc k) (suc-le-suc h)))

-- more digits make no number smaller
pub after_most : (m : ℕ) (ds : List ℕ) → m ≤ digits_value_after 10 m ds
after_most m [] = omega arith
after_most m (d ∷ ds) = let r = after_most (m * 10 + digit_value d) ds in omega arith

-- the number so far, and that of all
abbrev pub SoFar : List ℕ → ℕ → ℕ → Type 0
SoFar ds i n = digits_value_after 10 n (drop i ds) ≡ digits_value 10 ds

pub so_far_more : (ds : List ℕ) (i n d : ℕ) → i < length ds → SoFar ds i n → d ≡ digit_value (get_or ds i 0) → SoFar ds (i + 1) (n * 10 + d)
so_far_more ds i n d h s e = rw (e, add-one) (ap (digits_value_after 10 n) (sym (drop-cons ds i 0 h)) ∙ s)

-- ---- what the code finds

pub none_long : (ds : List ℕ) → ((1 ≤ length ds) × (length ds ≤ 20) → ⊥) → None ≡ hour_of ds
unfolding hour_of
none_long ds out =
    ⊎_elim
    (λ (one : leb 1 (length ds) ≡ true).
    ⊎_elim
    (λ (most : leb (length ds) 20 ≡ true). absurd (out (leb-true 1 (length ds) one, leb-true (length ds) 20 most)))
    (λ (more : leb (length ds) 20 ≡ false). rw (one, more) refl)
    (tested (leb (length ds) 20)))
    (λ (none : leb 1 (length ds) ≡ false). rw none refl)
    (tested (leb 1 (length ds)))

pub none_digit : (ds : List ℕ) (i : ℕ) → i < length ds → is_ascii_digit (get_or ds i 0) ≡ false → None ≡ hour_of ds
unfolding hour_of
none_digit ds i h n = rw (not_all ds i h n, and_none (leb 1 (length ds) && leb (length ds) 20)) refl

pub none_large : (ds : List ℕ) → 2 ^ 64 ≤ digits_value 10 ds → None ≡ hour_of ds
unfolding hour_of
none_large ds h = rw (le-ltb (digits_value 10 ds) (2 ^ 64) h, and_none (all_ascii_digits ds), and_none (leb 1 (length ds) && leb (length ds) 20)) refl

pub some_hour : (ds : List ℕ) (n : ℕ) → 1 ≤ length ds → length ds ≤ 20 → ((k : ℕ) → k < length ds → is_ascii_digit (get_or ds k 0) ≡ true) → n < 2 ^ 64 → n ≡ digits_value 10 ds → Some n ≡ hour_of ds
unfolding hour_of
some_hour ds n one most each small e =
    let low : digits_value 10 ds < 2 ^ 64 = omega arith in
    rw (le-leb 1 (length ds) one, le-leb (length ds) 20 most, all_of ds each, lt-ltb (digits_value 10 ds) (2 ^ 64) low) (ap Some e)

pub digit_less : (b d : ℕ) → IsInRange 48 57 b → d ≡ b - 48 → d ≡ digit_value b
digit_less b d r e = let v = digit_value_digit b r in omega arith

-- a digit that 64 bits have no room for
pub too_large : (ds : List ℕ) (i n d : ℕ) → i < length ds → SoFar ds i n → d ≡ digit_value (get_or ds i 0) → 2 ^ 64 ≤ n * 10 + d → None ≡ hour_of ds
too_large ds i n d h s e large =
    let more = so_far_more ds i n d h s e in
    let most = after_most (n * 10 + d) (drop (i + 1) ds) in
    none_large ds (omega (arith, more, most, large))

pub all_told : (ds : List ℕ) (i n : ℕ) → length ds ≤ i → SoFar ds i n → n ≡ digits_value 10 ds
all_told ds i n h s = ap (digits_value_after 10 n) (sym (drop_of_length-le ds h)) ∙ s
