-- Laws of the reader.
use Rattle.std.proofs.Common.{rules, ◌≡◌, refl, true, false, List, ℕ, ◌-◌, length, get_or, Option, Some, None, Result, Ok, Err}
use Rattle.std.specs.Option.{option_map_or}
use Rattle.bits.specs.Pick.{pick}
use Rattle.bits.proofs.Picks.{by_test}
use Rattle.frames.specs.Size.{kind_named, allows, payload_size, readable}
use Rattle.frames.specs.declared.kinds.FrameKind.{FrameKind}
use Rattle.frames.specs.declared.kinds.FrameKind.TheVariants as kinds
use Rattle.frames.proofs.SizeLaws.{named_byte}
use Rattle.frames.specs.Read.{frame_of, frame_by_kind, read_frame}
use Rattle.frames.specs.declared.shapes.Frame.{Frame}
use Rattle.frames.specs.declared.shapes.Frame.TheVariants.{Data}
use Rattle.refusals.specs.declared.reasons.Refusal.{Refusal}
use Rattle.refusals.specs.declared.reasons.Refusal.TheVariants.{NoFrame}

-- bytes of a kind and a length that it allows are its frame
pub read_some : (l : List ℕ) (kind : FrameKind) → kind_named (get_or l 0 0) ≡ Some kind → allows kind (length l) ≡ true → read_frame l ≡ Ok (frame_of kind l)
unfolding read_frame readable frame_by_kind
read_some l kind e a = rw (e, a)

-- so what holds of the refusal, and of the frame of each kind that allows the length, holds of what is read
pub by_kind : (P : Result Frame Refusal → Type 0) (l : List ℕ) → P (Err NoFrame)
    → ((kind : FrameKind) → kind_named (get_or l 0 0) ≡ Some kind → allows kind (length l) ≡ true → P (Ok (frame_of kind l))) → P (read_frame l)
unfolding read_frame readable frame_by_kind
by_kind P l none some = go (kind_named (get_or l 0 0)) refl
  where
    go : (o : Option FrameKind) → kind_named (get_or l 0 0) ≡ o
        → P (pick (option_map_or (λ kind. allows kind (length l)) o false) (option_map_or (λ kind. Ok (frame_of kind l)) o (Err NoFrame)) (Err NoFrame))
    go (Some kind) e = by_test P (allows kind (length l)) _ _ (λ a. some kind e a) (λ _. none)
    go None e = by_test P false _ _ (λ _. none) (λ _. none)

-- what is read as data is a 46h, with all of the payload, whose size is one that a payload can have
abbrev pub DataRead : ℕ → List ℕ → Result Frame Refusal → Type 0
DataRead k l (Ok (Data n)) = (k ≡ 0x46) × ((n ≡ length l - 4) × (payload_size n ≡ true))
DataRead k l _ = Unit

pub read_data : (l : List ℕ) → DataRead (get_or l 0 0) l (read_frame l)
read_data l = by_kind (DataRead (get_or l 0 0) l) l tt of_kind
  where
    of_kind : (kind : FrameKind) → kind_named (get_or l 0 0) ≡ Some kind → allows kind (length l) ≡ true → DataRead (get_or l 0 0) l (Ok (frame_of kind l))
    of_kind kinds.Data e a = (named_byte (get_or l 0 0) kinds.Data e, (refl, a))
    of_kind kind e a = search rules
