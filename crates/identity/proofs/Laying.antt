-- The page as it is filled, word by word, in place.
use Rattle.std.proofs.Common.{◌≡◌, refl, ap, ◌∙◌, List, ◌++◌, ℕ, zero, suc, ◌+◌, ◌*◌, ◌-◌, ◌<◌, append-nil, arith, length, length-append, replicate, add-one}
use borrow.Rule.Slice.PartMut.{mid_of, put_mid}
use Rattle.bits.specs.Laid.{overlay_with_room}
use Rattle.bits.specs.Little.{le_bytes}
use Rattle.pages.specs.Sum.{sealed_page}
use Rattle.pages.proofs.Filling.{lay_zeros}
use Rattle.identity.specs.Words.{word_of}
use Rattle.identity.specs.Page.{words_to, identity_page}
use Rattle.identity.specs.declared.words.Identity.{Identity}

module _ (f : Identity) where
  pub length_words : (n : ℕ) → length (words_to f n) ≡ 2 * n
  unfolding words_to
  length_words zero = refl
  length_words (suc n) =
      let l = length-append (words_to f n) (le_bytes 2 (word_of f n)) in
      let ih = length_words n in
      omega arith

  -- the first n words on a page of zeros
  abbrev pub laid : ℕ → List ℕ
  laid n = words_to f n ++ replicate (512 - 2 * n) 0

  -- the next one behind them
  pub lay_word : (n : ℕ) → n < 256 → (p b ys : List ℕ) → p ≡ laid n → b ≡ le_bytes 2 (word_of f n)
      → ys ≡ overlay_with_room b (mid_of (2 * n) (512 - 2 * n) p) → put_mid (2 * n) (512 - 2 * n) p ys ≡ laid (n + 1)
  unfolding words_to
  lay_word n h p b ys q e y =
      let m : 512 - 2 * n - length (le_bytes 2 (word_of f n)) ≡ 512 - 2 * suc n = omega arith in
      rw (y, q, e, add-one n)
      (lay_zeros (words_to f n) (le_bytes 2 (word_of f n)) (2 * n) (512 - 2 * n) (length_words n) (omega arith)
      ∙ ap (λ (k : ℕ). words_to f (suc n) ++ replicate k 0) m)

  -- all 256, and the sum byte behind them
  pub laid_all : (p : List ℕ) (n : ℕ) → p ≡ laid n → n ≡ 256 → sealed_page p ≡ identity_page f
  unfolding identity_page
  laid_all p n q e = rw (q, e) (ap sealed_page (append-nil (words_to f 256)))
