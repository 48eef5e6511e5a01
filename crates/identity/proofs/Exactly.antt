-- Each refusal of the reader is given exactly when it should be, and what a page does not tell has no value.
use Rattle.std.proofs.Common.{Some, None, ◌≡◌, refl, ap, ◌∙◌, ◌⊎◌, ⊎_elim, List, ℕ, ◌+◌, ◌/◌, ◌%◌, ◌^◌, ◌&&◌, not, eqb, Result, Ok, false, arith}
use mathlib.Core.Bool.{and-false}
use Rattle.bits.specs.Bit.{bit_in}
use Rattle.bits.specs.Little.{le_at}
use Rattle.bits.proofs.Picks.{pick_no}
use Rattle.refusals.specs.First.{first_of, refusal_in, FirstExactly}
use Rattle.refusals.specs.Number.{number_told}
use Rattle.refusals.specs.declared.reasons.Refusal.{Refusal}
use Rattle.refusals.proofs.FirstLaws as firsts
use Rattle.refusals.proofs.FirstLaws.{refusal_in_unless, unless_ok}
use Rattle.identity.specs.Read.{word_in, tells_queue, tells_capacity, told_by, ladder_identity, read_identity, identity_answer, IdentityGiven}
use Rattle.identity.specs.declared.reading.Identified.{Identified}
use Rattle.identity.proofs.ToldLaws.{identity_tells}

-- the refusal is that of the first rung that holds
refusal_first : (l : List ℕ) → refusal_in (read_identity l) ≡ first_of (ladder_identity l)
unfolding read_identity
refusal_first l = refusal_in_unless (first_of (ladder_identity l)) (told_by l)

pub first_exactly : (l : List ℕ) → FirstExactly (ladder_identity l) (refusal_in (read_identity l))
first_exactly l = rw (refusal_first l) (firsts.first_exactly (ladder_identity l) tt)

-- the number that an answer tells is that of its refusal, and 0 where it has none
pub number_told_lem : (r : Result Identified Refusal) → (identity_answer r).number ≡ number_told (refusal_in r)
unfolding identity_answer
number_told_lem r = grind arith

-- the answer is all that the reader promises
pub identity_told_lem : (l : List ℕ) (r : Result Identified Refusal) → r ≡ read_identity l → IdentityGiven l r
identity_told_lem l r e = record { answer = e; refusal = ap refusal_in e ∙ refusal_first l; told = ap identity_answer e ∙ identity_tells l }

no_queue : (w : ℕ) → (w ≡ 0) ⊎ ((w ≡ 0xFFFF) ⊎ (bit_in 16 w 8 ≡ false)) → tells_queue w ≡ false
no_queue w =
    ⊎_elim (λ (e : w ≡ 0). rw e refl)
    (⊎_elim (λ (e : w ≡ 0xFFFF). rw e refl) (λ (e : bit_in 16 w 8 ≡ false). rw e (and-false (not (eqb w 0) && not (eqb w 0xFFFF)))))

no_capacity : (w : ℕ) → (w / 2 ^ 14 ≡ 1 → ⊥) ⊎ (bit_in 16 w 10 ≡ false) → tells_capacity w ≡ false
no_capacity w = ⊎_elim (λ (n : w / 2 ^ 14 ≡ 1 → ⊥). grind arith) (λ (e : bit_in 16 w 10 ≡ false). rw e (and-false (eqb (w / 2 ^ 14) 1)))

module _ (l : List ℕ) (i : Identified) (e : Ok i ≡ read_identity l) where
  told : i ≡ told_by l
  unfolding read_identity
  told = (unless_ok (first_of (ladder_identity l)) (told_by l) i e).1

  -- of every page: a word 76 of 0000h or FFFFh, or whose bit 8 is off, tells no queue
  pub untold_queue : (word_in l 76 ≡ 0) ⊎ ((word_in l 76 ≡ 0xFFFF) ⊎ (bit_in 16 (word_in l 76) 8 ≡ false)) → i.queue ≡ None
  untold_queue w = ap (λ (t : Identified). t.queue) told ∙ pick_no (tells_queue (word_in l 76)) (Some (word_in l 75 % 32 + 1)) None (no_queue (word_in l 76) w)

  -- of every page: a word 83 whose bits 15:14 are not 01b, or whose bit 10 is off, tells no capacity
  pub untold_capacity : (word_in l 83 / 2 ^ 14 ≡ 1 → ⊥) ⊎ (bit_in 16 (word_in l 83) 10 ≡ false) → i.capacity ≡ None
  untold_capacity w = ap (λ (t : Identified). t.capacity) told ∙ pick_no (tells_capacity (word_in l 83)) (Some (le_at l 200 8)) None (no_capacity (word_in l 83) w)
