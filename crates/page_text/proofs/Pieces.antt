-- How long the pieces of a page's text are.
use Rattle.std.proofs.Common.{◌≡◌, ℕ, zero, suc, ◌+◌, ◌/◌, ◌%◌, ◌^◌, ◌<◌, ◌≤◌, true, List, [], ◌∷◌, length, refl, Result, Ok, Err, arith, length-append, pow-suc, eq-eqb}
use lib.ListN.{length-replicate}
use Rattle.std.proofs.lemmas.Fmt.{length-decimal-le}
use Rattle.std.specs.Fmt.{digit_glyph, digits_onto, digits, padded_integral, char_count}
use Rattle.refusals.specs.Number.{number}
use Rattle.refusals.specs.declared.reasons.Refusal.{Refusal}
use Rattle.page_text.specs.Words.{upper, refusal_text}
use Rattle.page_text.specs.Both.{both}
use Rattle.page_text.specs.Fields.{other_bytes_text}
use Rattle.page_text.specs.Counters.{others_text}

-- a number below 16 ^ (j + 1) has j + 1 hex digits at most
hex_most : (k j n : ℕ) (acc : List ℕ) → n < 16 ^ suc j → length (digits_onto k 16 true n acc) ≤ suc j + length acc
hex_most zero j n acc h = omega arith
hex_most (suc k) zero n acc h = rw (eq-eqb (n / 16) 0 (omega arith)) (omega arith)
hex_most (suc k) (suc j) n acc h =
    let m = hex_most k j (n / 16) (digit_glyph true (n % 16) ∷ acc) (omega (arith, pow-suc 16 (suc j))) in
    grind (arith, m)

-- a number that fits its width is as long as that
pub length_upper : (width n : ℕ) → 0 < width → n < 16 ^ width → length (upper width n) ≡ width
unfolding padded_integral char_count digits
length_upper zero n p h = absurd (omega arith)
length_upper (suc j) n p h =
    let m = hex_most 64 j n [] h in
    simp (length-append, length-replicate) (omega arith)

-- the line of a refusal, whose number has two digits at most
number_lt : (refusal : Refusal) → number refusal < 100
number_lt refusal = grind arith

pub refusal_most : (refusal : Refusal) → length (refusal_text refusal) ≤ 11
refusal_most refusal =
    let n = number refusal in
    let d = length-decimal-le 2 n (omega arith) (number_lt refusal) (omega (arith, number_lt refusal)) in
    simp length-append (omega arith)

-- what is told of two answers
pub by_both : {A B : Type 0} (P : Result (A × B) Refusal → Type 0) (a : Result A Refusal) (b : Result B Refusal) → ((refusal : Refusal) → P (Err refusal)) → ((x : A) (y : B) → a ≡ Ok x → b ≡ Ok y → P (Ok (x, y))) → P (both a b)
by_both P (Ok x) (Ok y) r t = t x y refl refl
by_both P (Ok x) (Err refusal) r t = r refusal
by_both P (Err refusal) b r t = r refusal

-- the lines of the counts, which are below 1,000
pub others_text_most : (n : ℕ) → n < 1000 → length (others_text n) ≤ 11
others_text_most n h =
    let d = length-decimal-le 3 n (omega arith) h (omega arith) in
    simp length-append (omega arith)

pub other_bytes_text_most : (n : ℕ) → n < 1000 → length (other_bytes_text n) ≤ 16
other_bytes_text_most n h =
    let d = length-decimal-le 3 n (omega arith) h (omega arith) in
    simp length-append (omega arith)
