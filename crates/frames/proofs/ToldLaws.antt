-- What the reader's answer tells is what the bytes tell.
use Rattle.std.proofs.Common.{◌≡◌, refl, ◌∙◌, List, ℕ, zero, suc, ◌+◌, ◌*◌, ◌/◌, ◌%◌, ◌^◌, ◌<◌, arith, get_or, eqb, lt-ltb, mod-lt, bit_and, Some, Result}
use lib.Bits.{and_mask}
use Rattle.std.proofs.lemmas.Nat.Bits.{bit_at_and}
use Rattle.bits.specs.Answer.{bit_number}
use Rattle.bits.specs.Bit.{bit_in}
use Rattle.bits.proofs.Masks.{and_two}
use Rattle.refusals.specs.First.{refusal_in}
use Rattle.refusals.specs.Told.{answer_unless}
use Rattle.refusals.specs.declared.reasons.Refusal.{Refusal}
use Rattle.frames.specs.Size.{kind_named}
use Rattle.frames.specs.Told.{kind_told, frame_told}
use Rattle.frames.specs.Read.{frame_of, read_frame, frame_values, frame_answer}
use Rattle.frames.specs.declared.kinds.FrameKind.{FrameKind}
use Rattle.frames.specs.declared.kinds.FrameKind.TheVariants.{HostRegister, DeviceRegister, SetDeviceBits, DmaSetup, DmaActivate, Data, BistActivate, PioSetup}
use Rattle.frames.specs.declared.shapes.Frame.{Frame}
use Rattle.frames.proofs.SizeLaws.{named_byte}
use Rattle.frames.proofs.ReadLaws.{by_kind}

-- a bit as a number
one_bit : (n : ℕ) → n < 2 → bit_number (eqb n 1) ≡ n
one_bit zero h = refl
one_bit (suc zero) h = refl
one_bit (suc (suc n)) h = absurd (omega arith)

pub bit_told : (b k : ℕ) → k < 8 → bit_number (bit_in 8 b k) ≡ b / 2 ^ k % 2
bit_told b k h = rw (lt-ltb k 8 h) (one_bit (b / 2 ^ k % 2) (mod-lt (b / 2 ^ k) (omega arith)))

-- one that a mask names
named_bit : (b m k : ℕ) → k < 8 → m / 2 ^ k % 2 ≡ 1 → bit_number (bit_in 8 (bit_and b m) k) ≡ b / 2 ^ k % 2
named_bit b m k h n =
    let two : b / 2 ^ k % 2 < 2 = mod-lt (b / 2 ^ k) (omega arith) in
    bit_told (bit_and b m) k h ∙ bit_at_and b m k ∙ rw n (omega arith)

halves_told : (b : ℕ) → bit_and b 0x77 ≡ b / 16 % 8 * 16 + b % 8
halves_told b = and_two b 4 7 7 (omega arith) ∙ rw (and_mask (b / 16) 3, and_mask (b % 16) 3) (omega arith)

module _ (l : List ℕ) where
  -- of each kind, the frame that bytes of it are
  of_kind : (kind : FrameKind) → kind_named (get_or l 0 0) ≡ Some kind → frame_values (frame_of kind l) ≡ kind_told kind l
  of_kind HostRegister e = rw (named_bit (get_or l 1 0) 0x80 7 (omega arith) refl, named_byte (get_or l 0 0) HostRegister e) refl
  of_kind DeviceRegister e = rw (named_bit (get_or l 1 0) 0x40 6 (omega arith) refl, named_byte (get_or l 0 0) DeviceRegister e) refl
  of_kind SetDeviceBits e = rw (named_bit (get_or l 1 0) 0x40 6 (omega arith) refl, halves_told (get_or l 2 0), named_byte (get_or l 0 0) SetDeviceBits e) refl
  of_kind DmaSetup e =
      rw (named_bit (get_or l 1 0) 0xE0 7 (omega arith) refl, named_bit (get_or l 1 0) 0xE0 6 (omega arith) refl, named_bit (get_or l 1 0) 0xE0 5 (omega arith) refl, named_byte (get_or l 0 0) DmaSetup e) refl
  of_kind DmaActivate e = rw (named_byte (get_or l 0 0) DmaActivate e) refl
  of_kind Data e = rw (named_byte (get_or l 0 0) Data e) refl
  of_kind BistActivate e = rw (named_byte (get_or l 0 0) BistActivate e) refl
  of_kind PioSetup e =
      rw (named_bit (get_or l 1 0) 0x60 6 (omega arith) refl, named_bit (get_or l 1 0) 0x60 5 (omega arith) refl, named_byte (get_or l 0 0) PioSetup e) refl

  abbrev Tells : Result Frame Refusal → Type 0
  Tells r = frame_answer r ≡ answer_unless (refusal_in r) (frame_told l)

  -- so of every frame
  pub read_tells : Tells (read_frame l)
  unfolding frame_answer
  read_tells = by_kind Tells l refl (λ kind e a. rw (e, of_kind kind e) refl)
