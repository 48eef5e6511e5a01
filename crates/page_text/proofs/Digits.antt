-- What the hex digits of a page's text are, and how they are laid, the last one first.
use Rattle.std.proofs.Common.{◌≡◌, ℕ, zero, suc, ◌+◌, ◌-◌, ◌^◌, ◌<◌, ◌≤◌, ◌/◌, ◌%◌, true, min, List, [], ◌∷◌, ◌++◌, length, take, drop, refl, sym, ap, subst, ◌∙◌, arith, eq-eqb, pow-suc, take-append-drop, append-nil, length-drop}
use Rattle.std.proofs.lemmas.Bool.{ne_eqb}
use Rattle.std.proofs.Math.ListN.{set, replicate, length-set}
use Rattle.std.proofs.lemmas.List.{drop-set, drop-replicate, take-replicate, take-take, take-set-le, drop-append-le, drop_all, length-replicate}
use Rattle.std.proofs.lemmas.Fmt.{hex_byte}
use Rattle.std.specs.Fmt.{digit_glyph, digits_onto, digits, padded_integral, char_count}
use Rattle.page_text.specs.Words.{upper}

-- a byte is told by its two digits
pub upper_byte : (n : ℕ) → n < 256 → upper 2 n ≡ digit_glyph true (n / 16) ∷ digit_glyph true (n % 16) ∷ []
upper_byte n h = hex_byte true n h

shorter : (m n : ℕ) (xs ys : List ℕ) → m ≤ n → take n xs ≡ take n ys → take m xs ≡ take m ys
shorter m n xs ys within same = sym (take-take m n xs within) ∙ ap (take m) same ∙ take-take m n ys within

-- one digit of several, and the last one
digits_more : (k n : ℕ) (acc : List ℕ) → 16 ≤ n → digits_onto (suc k) 16 true n acc ≡ digits_onto k 16 true (n / 16) (digit_glyph true (n % 16) ∷ acc)
digits_more k n acc h = rw (ne_eqb (n / 16) 0 (omega arith)) refl

digits_last : (k n : ℕ) (acc : List ℕ) → n < 16 → digits_onto (suc k) 16 true n acc ≡ digit_glyph true n ∷ acc
digits_last k n acc h = let same : n % 16 ≡ n = omega arith in rw (eq-eqb (n / 16) 0 (omega arith), same) refl

-- of the digits of n those behind a place are laid, and those of `rest` are still to come, the last of them at that place
pub record Laying (n at rest : ℕ) (places old : List ℕ) : Type 0 where
  pub sized : length places ≡ 16
  pub inside : at < 16
  pub small : rest < 16 ^ suc at
  pub told : digits_onto (suc (48 + at)) 16 true rest (drop (suc at) places) ≡ digits 16 true n
  pub front : take (suc at) places ≡ take (suc at) old

-- none is laid yet
pub laying_none : (n : ℕ) (places : List ℕ) → length places ≡ 16 → n < 2 ^ 64 → Laying n 15 n places places
unfolding digits
laying_none n places sized h = record {
  sized = sized;
  inside = omega arith;
  small = h;
  told = ap (digits_onto 64 16 true n) (drop_all 16 places (omega (arith, sized)));
  front = refl;
}

-- where there are more there is a place in front
pub laying_room : (n at rest : ℕ) (places old : List ℕ) → Laying n at rest places old → 16 ≤ rest → 1 ≤ at
laying_room n zero rest places old l h = absurd (omega (arith, l.small))
laying_room n (suc at) rest places old l h = omega arith

-- one more
laid_at : (places : List ℕ) (at digit : ℕ) → length places ≡ 16 → at < 16 → drop at (set places at digit) ≡ digit ∷ drop (suc at) places
laid_at places at digit sized inside = let one : at + 1 ≡ suc at = omega arith in drop-set places at digit (omega (arith, sized, inside)) ∙ ap (λ k. digit ∷ drop k places) one

laying_on : (n at rest digit : ℕ) (places old : List ℕ) → Laying n (suc at) rest places old → 16 ≤ rest → digit ≡ digit_glyph true (rest % 16) → Laying n at (rest / 16) (set places (suc at) digit) old
laying_on n at rest digit places old l h d =
    let fuel : suc (48 + at) ≡ 48 + suc at = omega arith in
    record {
      sized = length-set places (suc at) digit ∙ l.sized;
      inside = omega (arith, l.inside);
      small = omega (arith, l.small, pow-suc 16 (suc at));
      told = ap (digits_onto (suc (48 + at)) 16 true (rest / 16)) (laid_at places (suc at) digit l.sized l.inside ∙ ap (λ x. x ∷ drop (suc (suc at)) places) d)
          ∙ ap (λ k. digits_onto k 16 true (rest / 16) (digit_glyph true (rest % 16) ∷ drop (suc (suc at)) places)) fuel
          ∙ sym (digits_more (48 + suc at) rest (drop (suc (suc at)) places) h) ∙ l.told;
      front = take-set-le (suc at) places (suc at) digit (omega arith) ∙ shorter (suc at) (suc (suc at)) places old (omega arith) l.front;
    }

pub laying_more : (n at rest digit : ℕ) (places old : List ℕ) → Laying n at rest places old → 16 ≤ rest → digit ≡ digit_glyph true (rest % 16) → Laying n (at - 1) (rest / 16) (set places at digit) old
laying_more n zero rest digit places old l h d = absurd (omega (arith, l.small))
laying_more n (suc at) rest digit places old l h d =
    let before : at ≡ suc at - 1 = omega arith in subst (λ k. Laying n k (rest / 16) (set places (suc at) digit) old) before (laying_on n at rest digit places old l h d)

-- the last
pub laying_last : (n at rest digit : ℕ) (places old : List ℕ) → Laying n at rest places old → rest < 16 → digit ≡ digit_glyph true rest → drop at (set places at digit) ≡ digits 16 true n
laying_last n at rest digit places old l h d = rw (laid_at places at digit l.sized l.inside, d) (sym (digits_last (48 + at) rest (drop (suc at) places) h) ∙ l.told)

pub laying_front : (n at rest digit : ℕ) (places old : List ℕ) → Laying n at rest places old → take at (set places at digit) ≡ take at old
laying_front n at rest digit places old l = take-set-le _ _ _ _ (omega arith) ∙ shorter at (suc at) places old (omega arith) l.front

-- behind so many zeros, from the place on from which there are as many as were asked for
pub upper_laid : (places : List ℕ) (n at width : ℕ) → length places ≡ 16 → at ≤ 16 → width ≤ 16 → drop at places ≡ digits 16 true n → take at places ≡ replicate at 48 → drop (min at (16 - width)) places ≡ upper width n
unfolding padded_integral char_count
upper_laid places n at width sized inside fits laid zeros =
    let long : length (digits 16 true n) ≡ 16 - at = sym (ap length laid) ∙ length-drop at places ∙ omega (arith, sized) in
    let whole : places ≡ replicate at 48 ++ digits 16 true n = sym (take-append-drop at places) ∙ ap (λ l. l ++ drop at places) zeros ∙ ap (λ l. replicate at 48 ++ l) laid in
    let short : at - min at (16 - width) ≡ width - length (digits 16 true n) - 0 - 0 = omega (arith, long) in
    rw whole (drop-append-le (min at (16 - width)) (replicate at 48) (digits 16 true n) (omega (arith, length-replicate {A = ℕ} at 48)) ∙ rw (drop-replicate, short) (simp append-nil))

-- a front of sixteen zeros
pub zeros_front : (at : ℕ) → at ≤ 16 → take at (replicate {A = ℕ} 16 48) ≡ replicate at 48
zeros_front at inside = take-replicate at 16 48 inside
