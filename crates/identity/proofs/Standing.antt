-- What stands where on the page as it is made.
use Rattle.std.proofs.Common.{◌≡◌, sym, ap, ◌∙◌, ⊎_elim, Bool, true, false, if◌then◌else◌, ℕ, zero, suc, ◌+◌, ◌-◌, ◌*◌, ◌%◌, ◌^◌, ◌<◌, leb, arith, leb-true, leb-false, length, length-set, get_or, get_or-set_other, get_or-append-add}
use lib.ListN.{get_or-append}
use Rattle.bits.specs.Little.{le_bytes}
use Rattle.bits.proofs.Picks.{tested}
use Rattle.pages.specs.Sum.{sum256, sum_byte, sealed_page}
use Rattle.pages.proofs.Sealed.{sum_sealed}
use Rattle.pages.proofs.ByWidth.{le_stands}
use Rattle.identity.specs.Words.{word_of, sixteen_bits, fits_identity}
use Rattle.identity.specs.Page.{words_to, identity_page}
use Rattle.identity.specs.Read.{word_in}
use Rattle.identity.specs.declared.words.Identity.{Identity}
use Rattle.identity.proofs.Laying.{length_words}

-- of a line of the table and what follows it each has sixteen bits
either_small : (b : Bool) (x y : ℕ) → x < 2 ^ 16 → y < 2 ^ 16 → (if b then x else y) < 2 ^ 16
either_small true x y h k = h
either_small false x y h k = k

bits_small : (n from : ℕ) → sixteen_bits n from < 2 ^ 16
bits_small n from = omega arith

module _ (f : Identity) where
  -- a word stands where its number says, however many follow
  pub word_stands : (n k j : ℕ) → k < n → j < 2 → get_or (words_to f n) (2 * k + j) 0 ≡ get_or (le_bytes 2 (word_of f k)) j 0
  unfolding words_to
  word_stands zero k j h i = absurd (omega arith)
  word_stands (suc n) k j h i =
      let l = length_words f n in
      ⊎_elim
      (λ t.
      let e : k < n = leb-true (suc k) n t in
      get_or-append (words_to f n) (le_bytes 2 (word_of f n)) 0 (2 * k + j) (omega arith) ∙ word_stands n k j e i)
      (λ t.
      let q = leb-false (suc k) n t in
      let e : k ≡ n = omega arith in
      let a : 2 * k + j ≡ length (words_to f n) + j = omega arith in
      rw a (get_or-append-add (words_to f n) (le_bytes 2 (word_of f n)) j 0 ∙ ap (λ (m : ℕ). get_or (le_bytes 2 (word_of f m)) j 0) (sym e)))
      (tested (leb (suc k) n))

  -- the page's bytes but the last are those of the words
  pub byte_stands : (i : ℕ) → i < 511 → get_or (identity_page f) i 0 ≡ get_or (words_to f 256) i 0
  unfolding identity_page sealed_page
  byte_stands i h = get_or-set_other (words_to f 256) 511 i (sum_byte (words_to f 256)) 0 (λ e. omega arith)

  pub page_length : length (identity_page f) ≡ 512
  unfolding identity_page sealed_page
  page_length = length-set (words_to f 256) 511 (sum_byte (words_to f 256)) ∙ length_words f 256

  -- A5h stands in front of the sum
  pub page_signed : get_or (identity_page f) 510 0 ≡ 0xA5
  unfolding word_of
  page_signed = byte_stands 510 (omega arith) ∙ word_stands 256 255 0 (omega arith) (omega arith)

  last_zero : get_or (words_to f 256) 511 0 ≡ 0
  unfolding word_of
  last_zero = word_stands 256 255 1 (omega arith) (omega arith)

  -- all bytes sum to 0
  pub identity_sums : sum256 (identity_page f) ≡ 0
  unfolding identity_page
  identity_sums = sum_sealed (words_to f 256) (length_words f 256) last_zero

  module _ (h : fits_identity f ≡ true) where
    depth_small : (f.depth - 1) % 32 < 2 ^ 16
    depth_small = grind arith

    -- every word has sixteen bits
    word_small : (k : ℕ) → word_of f k < 2 ^ 16
    unfolding word_of
    word_small k = search (arith, either_small, bits_small, depth_small)

    -- the table: each word but the last is read where its number says
    pub word_is : (k : ℕ) → k < 255 → word_in (identity_page f) k ≡ word_of f k
    word_is k l =
        le_stands 2 (word_of f k) (word_small k) (identity_page f) (2 * k)
        (λ j i. byte_stands (2 * k + j) (omega arith) ∙ word_stands 256 k j (omega arith) i)
