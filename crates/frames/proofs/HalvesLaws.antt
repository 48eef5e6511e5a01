-- The status of an A1h is written by its halves: where it fits they are the whole, and where it does not nothing is written.
use Rattle.std.proofs.Common.{◌≡◌, sym, subst, Bool, true, false, List, ℕ, Result, bit_and, eqb, eqb-true}
use Rattle.refusals.specs.First.{first_of}
use Rattle.refusals.specs.declared.reasons.Refusal.{Refusal}
use Rattle.frames.specs.declared.shapes.SetBits.{SetBits}
use Rattle.frames.specs.Emit.{WriteGiven, write_refusal}
use Rattle.frames.specs.Write.{set_bits, encode, with_status}

pub halves_given : (fit : Bool) (f : SetBits) (d : List ℕ) (r : Result ℕ Refusal) (d' : List ℕ) → fit ≡ eqb (bit_and f.status 0x77) f.status
    → WriteGiven fit (encode (set_bits (with_status f (bit_and f.status 0x77)))) d r d' → WriteGiven fit (encode (set_bits f)) d r d'
unfolding write_refusal first_of encode
halves_given true f d r d' e g = subst (λ (v : ℕ). WriteGiven true (encode (set_bits (with_status f v))) d r d') (eqb-true (bit_and f.status 0x77) f.status (sym e)) g
halves_given false f d r d' e g = record { answer = g.answer; bytes = g.bytes }
