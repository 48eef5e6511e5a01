-- What depth and capacity make of the page, and that all else is the same.
use Rattle.std.proofs.Common.{◌≡◌, refl, sym, ap, subst, ◌∙◌, ◌||◌, true, false, List, ℕ, ◌+◌, ◌*◌, ◌/◌, ◌%◌, ◌^◌, ◌<◌, ◌≤◌, min, arith, eqb, ne_eqb, get_or}
use Rattle.bits.specs.Little.{le_at, le_bytes}
use borrow.Author.Tests.{eqb-false}
use Rattle.bits.proofs.Picks.{or_left, or_right}
use Rattle.identity.specs.Words.{word_of, within, fits_identity}
use Rattle.identity.specs.Page.{identity_page}
use Rattle.identity.specs.Read.{word_in}
use Rattle.identity.specs.Made.{MadeOf, is_made, SameElse}
use Rattle.identity.specs.declared.words.Identity.{Identity}
use Rattle.identity.proofs.Standing.{word_is, word_stands, byte_stands, page_length, identity_sums}
use Rattle.identity.proofs.Trip.{capacity_stands}

-- two words are a number of four bytes
two_words : (l : List ℕ) → le_at l 120 4 ≡ word_in l 60 + 2 ^ 16 * word_in l 61
two_words l = omega arith

-- as are the two that it is cut into
two_bits : (c : ℕ) → c < 2 ^ 32 → c / 2 ^ 0 % 2 ^ 16 + 2 ^ 16 * (c / 2 ^ 16 % 2 ^ 16) ≡ c
two_bits c h = omega arith

module _ (f : Identity) (h : fits_identity f ≡ true) where
  depth_stands : word_in (identity_page f) 75 + 1 ≡ f.depth
  unfolding word_of
  depth_stands = rw (word_is f h 75 (omega arith)) (grind arith)

  sectors_by_28_bits : le_at (identity_page f) 120 4 ≡ min f.capacity 0xFFFFFFF
  unfolding word_of
  sectors_by_28_bits =
      let small : min f.capacity 0xFFFFFFF < 2 ^ 32 = omega arith in
      two_words (identity_page f) ∙ rw (word_is f h 60 (omega arith), word_is f h 61 (omega arith)) (two_bits (min f.capacity 0xFFFFFFF) small)

  pub made_of : MadeOf f (identity_page f)
  made_of = record { bytes = page_length f; depth = depth_stands; by_28_bits = sectors_by_28_bits; by_48_bits = capacity_stands f h; sum = identity_sums f }

-- what does not lie between two is below the one or above the other
outside : (first last i : ℕ) → within first last i ≡ false → first ≤ i → i ≤ last → ⊥
outside first last i e l h = grind arith

-- of any two, a word that is none of those is the same
module _ (f g : Identity) where
  word_same : (k : ℕ) → eqb k 60 ≡ false → eqb k 61 ≡ false → eqb k 75 ≡ false → eqb k 100 ≡ false → eqb k 101 ≡ false → eqb k 102 ≡ false → eqb k 103 ≡ false → word_of f k ≡ word_of g k
  unfolding word_of
  word_same k a b c d e i j = rw (a, b, c, d, e, i, j) refl

  -- and so is each of its bytes
  byte_same : (k j : ℕ) → k < 256 → j < 2 → is_made (2 * k + j) ≡ false → get_or (identity_page f) (2 * k + j) 0 ≡ get_or (identity_page g) (2 * k + j) 0
  byte_same k j l m v =
      let not_last = or_right (within 120 123 (2 * k + j) || within 150 151 (2 * k + j) || within 200 207 (2 * k + j)) (eqb (2 * k + j) 511) v in
      let words = or_left (within 120 123 (2 * k + j) || within 150 151 (2 * k + j) || within 200 207 (2 * k + j)) (eqb (2 * k + j) 511) v in
      let few = or_left (within 120 123 (2 * k + j) || within 150 151 (2 * k + j)) (within 200 207 (2 * k + j)) words in
      let by_28 = outside 120 123 (2 * k + j) (or_left (within 120 123 (2 * k + j)) (within 150 151 (2 * k + j)) few) in
      let depth = outside 150 151 (2 * k + j) (or_right (within 120 123 (2 * k + j)) (within 150 151 (2 * k + j)) few) in
      let by_48 = outside 200 207 (2 * k + j) (or_right (within 120 123 (2 * k + j) || within 150 151 (2 * k + j)) (within 200 207 (2 * k + j)) words) in
      let before : 2 * k + j < 511 = let n = eqb-false (2 * k + j) 511 not_last in omega arith in
      let same =
      word_same k
      (ne_eqb k 60 (λ e. by_28 (omega arith) (omega arith)))
      (ne_eqb k 61 (λ e. by_28 (omega arith) (omega arith)))
      (ne_eqb k 75 (λ e. depth (omega arith) (omega arith)))
      (ne_eqb k 100 (λ e. by_48 (omega arith) (omega arith)))
      (ne_eqb k 101 (λ e. by_48 (omega arith) (omega arith)))
      (ne_eqb k 102 (λ e. by_48 (omega arith) (omega arith)))
      (ne_eqb k 103 (λ e. by_48 (omega arith) (omega arith)))
      in
      byte_stands f (2 * k + j) before
      ∙ word_stands f 256 k j l m
      ∙ ap (λ (w : ℕ). get_or (le_bytes 2 w) j 0) same
      ∙ sym (byte_stands g (2 * k + j) before ∙ word_stands g 256 k j l m)

  pub same_else : SameElse (identity_page f) (identity_page g)
  same_else i l v =
      let e : 2 * (i / 2) + i % 2 ≡ i = omega arith in
      subst (λ (n : ℕ). is_made n ≡ false → get_or (identity_page f) n 0 ≡ get_or (identity_page g) n 0) e
      (byte_same (i / 2) (i % 2) (omega arith) (omega arith)) v
