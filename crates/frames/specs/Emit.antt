-- What every writer answers, and what its buffer then holds.
use Rattle.std.specs.Prelude.{◌≡◌, Bool, not, List, [], ◌∷◌, ℕ, length, ltb, Option, Result, is_none}
use Rattle.bits.specs.Pick.{pick}
use Rattle.bits.specs.Laid.{overlay}
use Rattle.refusals.specs.First.{Rung, rung, first_of, unless}
use Rattle.refusals.specs.declared.reasons.Refusal.{Refusal}
use Rattle.refusals.specs.declared.reasons.Refusal.TheVariants.{Unfit, BufferShort}

-- 25: the values do not fit their places; 26: buffer too short for n bytes [refused-25] [refused-26]
abbrev pub ladder_write : Bool → ℕ → ℕ → List Rung
ladder_write fit n room = rung Unfit (not fit) ∷ rung BufferShort (ltb room n) ∷ []

-- what a writer of n bytes is refused with [refused-26]
unfoldable pub write_refusal : Bool → ℕ → ℕ → Option Refusal
write_refusal fit n room = first_of (ladder_write fit n room)

-- what a writer of the bytes s into the buffer d answers, and what d then holds: s in front and the rest as it was, or all as it was [frame-write] [one-function]
pub record WriteGiven (fit : Bool) (s d : List ℕ) (r : Result ℕ Refusal) (d' : List ℕ) : Type 0 where
  pub answer : r ≡ unless (write_refusal fit (length s) (length d)) (length s)
  pub bytes : d' ≡ pick (is_none (write_refusal fit (length s) (length d))) (overlay s d) d
