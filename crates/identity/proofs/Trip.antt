-- The page, there and back.
use Rattle.std.proofs.Common.{Ok, Some, Option, ◌≡◌, refl, ap, ap₂, ◌∙◌, true, List, ℕ, ◌+◌, ◌*◌, ◌/◌, ◌%◌, ◌-◌, ◌^◌, ◌<◌, arith, length, take, drop, take_at, eq-eqb}
use Rattle.bits.specs.Little.{le_at}
use Rattle.refusals.specs.First.{first_of}
use Rattle.frames.specs.Emit.{WriteGiven}
use Rattle.frames.proofs.EmitLaws.{wrote_all}
use Rattle.pages.specs.Sum.{sum256}
use Rattle.identity.specs.Words.{word_of, fits_identity}
use Rattle.identity.specs.Page.{identity_page}
use Rattle.identity.specs.Read.{word_in, queue_told, capacity_told, all_told, read_identity}
use Rattle.identity.specs.declared.words.Identity.{Identity}
use Rattle.identity.proofs.Standing.{word_is, page_length, page_signed, identity_sums}

-- four words are a number of eight bytes
four_words : (l : List ℕ) → le_at l 200 8 ≡ word_in l 100 + 2 ^ 16 * word_in l 101 + 2 ^ 32 * word_in l 102 + 2 ^ 48 * word_in l 103
four_words l = omega arith

-- as are the four that it is cut into
four_bits : (c : ℕ) → c < 2 ^ 48 → c / 2 ^ 0 % 2 ^ 16 + 2 ^ 16 * (c / 2 ^ 16 % 2 ^ 16) + 2 ^ 32 * (c / 2 ^ 32 % 2 ^ 16) + 2 ^ 48 * (c / 2 ^ 48 % 2 ^ 16) ≡ c
four_bits c h = omega arith

module _ (f : Identity) (h : fits_identity f ≡ true) where
  small_capacity : f.capacity < 2 ^ 48
  small_capacity = grind arith

  depth_back : (f.depth - 1) % 32 % 32 + 1 ≡ f.depth
  depth_back = grind arith

  is : (k : ℕ) → k < 255 → word_in (identity_page f) k ≡ word_of f k
  is = word_is f h

  queue_back : queue_told (identity_page f) ≡ Some f.depth
  unfolding word_of
  queue_back = rw (is 76 (omega arith), is 75 (omega arith)) (ap (λ (d : ℕ). Some d) depth_back)

  -- words 100 to 103 are the capacity
  pub capacity_stands : le_at (identity_page f) 200 8 ≡ f.capacity
  unfolding word_of
  capacity_stands =
      four_words (identity_page f)
      ∙ rw (is 100 (omega arith), is 101 (omega arith), is 102 (omega arith), is 103 (omega arith)) (four_bits f.capacity small_capacity)

  capacity_back : capacity_told (identity_page f) ≡ Some f.capacity
  unfolding word_of
  capacity_back = rw (is 83 (omega arith)) (ap (λ (c : ℕ). Some c) capacity_stands)

  pub read_identified : read_identity (identity_page f) ≡ Ok (all_told f)
  unfolding read_identity first_of
  read_identified =
      rw (eq-eqb (length (identity_page f)) 512 (page_length f), eq-eqb (sum256 (identity_page f)) 0 (identity_sums f), page_signed f)
      (ap₂ (λ (q c : Option ℕ). Ok (record { queue = q; capacity = c })) queue_back capacity_back)

-- reading the page that was written gives depth and capacity back
pub read_write : (f : Identity) (d d' : List ℕ) (n : ℕ) → WriteGiven (fits_identity f) (identity_page f) d (Ok n) d' → read_identity (take n d') ≡ Ok (all_told f)
read_write f d d' n w =
    let a = wrote_all (fits_identity f) (identity_page f) d n d' w in
    rw (a.2, a.3, take_at (identity_page f) (drop (length (identity_page f)) d) (length (identity_page f)) refl) (read_identified f a.0)
