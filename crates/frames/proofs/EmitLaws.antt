-- Laws of every writer.
use Rattle.std.proofs.Common.{◌≡◌, refl, ◌∙◌, Bool, true, false, List, ℕ, ◌≤◌, ◌<◌, length, Some, None, Result, Ok, ⊎_elim, lt-ltb, le-ltb}
use Rattle.bits.specs.Laid.{overlay}
use Rattle.std.proofs.lemmas.Bool.{cases_lt}
use Rattle.bits.proofs.Tying.{same}
use Rattle.refusals.specs.First.{first_of}
use Rattle.refusals.specs.declared.reasons.Refusal.{Refusal}
use Rattle.refusals.proofs.FirstLaws.{unless_ok}
use Rattle.refusals.specs.declared.reasons.Refusal.TheVariants.{Unfit, BufferShort}
use Rattle.frames.specs.Emit.{write_refusal, WriteGiven}

-- what a writer gives by what it finds
pub write_refusal_unfit : (n room : ℕ) → write_refusal false n room ≡ Some Unfit
unfolding write_refusal first_of
write_refusal_unfit n room = refl

pub write_refusal_short : (n room : ℕ) → room < n → write_refusal true n room ≡ Some BufferShort
unfolding write_refusal first_of
write_refusal_short n room h = rw (lt-ltb room n h)

pub write_refusal_none : (n room : ℕ) → n ≤ room → write_refusal true n room ≡ None
unfolding write_refusal first_of
write_refusal_none n room h = rw (le-ltb room n h)

module _ (fit : Bool) (s d : List ℕ) where
  pub emitted_done : (n : ℕ) (d' : List ℕ) → fit ≡ true → length s ≤ length d → n ≡ length s → d' ≡ overlay s d → WriteGiven fit s d (Ok n) d'
  emitted_done n d' e h m b = record {
    answer = rw (e, write_refusal_none (length s) (length d) h, m);
    bytes = rw (e, write_refusal_none (length s) (length d) h) b;
  }

-- where a writer refuses nothing, the values fit and the buffer has room
pub done_fits : (fit : Bool) (n room : ℕ) → write_refusal fit n room ≡ None → (fit ≡ true) × (n ≤ room)
done_fits false n room e = absurd (let q = write_refusal_unfit n room in cc)
done_fits true n room e =
    ⊎_elim (λ (h : room < n). absurd (let q = write_refusal_short n room h in cc)) (λ (h : n ≤ room). (refl, h)) (cases_lt room n)

-- and then all is written, and nothing else changed
pub wrote_all : (fit : Bool) (s d : List ℕ) (k : ℕ) (d' : List ℕ) → WriteGiven fit s d (Ok k) d'
    → (fit ≡ true) × (length s ≤ length d) × (k ≡ length s) × (d' ≡ overlay s d)
wrote_all fit s d k d' w =
    let a = unless_ok (write_refusal fit (length s) (length d)) (length s) k w.answer in
    let f = done_fits fit (length s) (length d) a.0 in
    (f.0, f.1, a.1, w.bytes ∙ rw a.0)

-- a caller that knows that the values fit and how much room there is knows what is written
pub wrote_room : (fit : Bool) (s d : List ℕ) (r : Result ℕ Refusal) (d' : List ℕ) → WriteGiven fit s d r d' → fit ≡ true → length s ≤ length d
    → (r ≡ Ok (length s)) × (d' ≡ overlay s d)
wrote_room fit s d r d' w f h =
    let z : write_refusal fit (length s) (length d) ≡ None = rw f (write_refusal_none (length s) (length d) h) in
    (w.answer ∙ rw z, w.bytes ∙ rw z)

-- a writer has one answer
pub emitted_once : (fit : Bool) (s d : List ℕ) (r r' : Result ℕ Refusal) (b b' : List ℕ) → WriteGiven fit s d r b → WriteGiven fit s d r' b' → (r ≡ r') × (b ≡ b')
emitted_once fit s d r r' b b' p q = (same p.answer q.answer, same p.bytes q.bytes)
