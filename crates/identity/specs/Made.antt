-- What depth and capacity make of the page, and that they make nothing else of it.
use Rattle.std.specs.Prelude.{◌≡◌, false, Bool, ◌||◌, List, ℕ, ◌+◌, ◌<◌, eqb, min, length, get_or}
use Rattle.bits.specs.Little.{le_at}
use Rattle.pages.specs.Sum.{sum256}
use Rattle.identity.specs.Words.{within}
use Rattle.identity.specs.Read.{word_in}
use Rattle.identity.specs.declared.words.Identity.{Identity}

-- word 75 is the depth less one, words 60 and 61 are the capacity as far as 28 bits can tell it, words 100 to 103 the capacity [identity-words]
pub record MadeOf (f : Identity) (l : List ℕ) : Type 0 where
  pub bytes : length l ≡ 512
  pub depth : word_in l 75 + 1 ≡ f.depth
  pub by_28_bits : le_at l 120 4 ≡ min f.capacity 0xFFFFFFF
  pub by_48_bits : le_at l 200 8 ≡ f.capacity
  pub sum : sum256 l ≡ 0

-- the bytes of these words, and the last, which makes the sum
abbrev pub is_made : ℕ → Bool
is_made i = within 120 123 i || within 150 151 i || within 200 207 i || eqb i 511

-- every other byte of two pages is the same [identity-fixed]
abbrev pub SameElse : List ℕ → List ℕ → Type 0
SameElse l m = (i : ℕ) → i < 512 → is_made i ≡ false → get_or l i 0 ≡ get_or m i 0
