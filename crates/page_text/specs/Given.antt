-- What is answered where a whole text is laid in front of a buffer.
use Rattle.std.specs.Prelude.{◌≡◌, ℕ, List, length, leb, take}
use Rattle.bits.specs.Pick.{pick}
use Rattle.bits.specs.Laid.{overlay}

-- the text's length, or 0 where it has no room; the buffer then holds the front of the text that has, and every other byte as it was [text-10h] [text-11h]
pub record WholeTextGiven (text old : List ℕ) (answer : ℕ) (new : List ℕ) : Type 0 where
  pub len : answer ≡ pick (leb (length text) (length old)) (length text) 0
  pub bytes : new ≡ overlay (take (length old) text) old
