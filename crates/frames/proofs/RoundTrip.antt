-- What a writer wrote, the reader reads again.
use Rattle.std.proofs.Common.{Ok, ◌≡◌, refl, ap, ◌∙◌, true, List, [], ℕ, ◌-◌, arith, length, get_or, take, drop, take_at, Some}
use mathlib.Core.Path.{fun_ext}
use Rattle.frames.specs.Layout.{masks, all_hold}
use Rattle.frames.specs.Layouts.{layout_of, standing}
use Rattle.frames.specs.Size.{kind_named, payload_size, allows}
use Rattle.frames.specs.Read.{frame_at, read_frame}
use Rattle.frames.specs.Write.{FrameValue, payload, kind_of, values_of, payload_in, encode, fits, FrameWriteGiven}
use Rattle.frames.specs.RoundTrip.{read_back}
use Rattle.frames.proofs.LayoutLaws.{value_at, got_written}
use Rattle.frames.proofs.ReadLaws.{read_some}
use Rattle.frames.proofs.EmitLaws.{wrote_all}

-- a frame is what its values say
told : FrameValue → ℕ → ℕ
told f = value_at (layout_of (kind_of f)) (values_of f) 0

back : (f : FrameValue) → frame_at (kind_of f) (told f) (length (payload_in f)) ≡ read_back f
unfolding told
back f = grind arith

-- its bytes have its kind, and a length that this allows
of_kind : (f : FrameValue) → kind_named (get_or (encode f) 0 0) ≡ Some (kind_of f)
unfolding encode
of_kind f = grind arith

sized : (p : List ℕ) → fits (payload p) ≡ payload_size (length p)
unfolding fits
sized p = refl

allowed : (f : FrameValue) → fits f ≡ true → allows (kind_of f) (length (encode f)) ≡ true
unfolding encode
allowed f h = grind (arith, sized)

behind : (f : FrameValue) → length (encode f) - length (masks (layout_of (kind_of f))) ≡ length (payload_in f)
unfolding encode
behind f = grind arith

placed : (f : FrameValue) → fits f ≡ true → all_hold (layout_of (kind_of f)) (values_of f) ≡ true
unfolding fits
placed f h = grind arith

-- its values stand in them
stands : (f : FrameValue) → fits f ≡ true → standing (kind_of f) (encode f) ≡ told f
unfolding encode told
stands f h = fun_ext (λ at. got_written (layout_of (kind_of f)) (values_of f) [] (payload_in f) (placed f h) at)

-- what was encoded is read as what was sent
pub read_encoded : (f : FrameValue) → fits f ≡ true → read_frame (encode f) ≡ Ok (read_back f)
read_encoded f h = read_some (encode f) (kind_of f) (of_kind f) (allowed f h) ∙ ap (λ x. Ok x) (rw (stands f h, behind f) (back f))

-- the bytes that a writer wrote are the frame's
pub written_front : (f : FrameValue) (d d' : List ℕ) (n : ℕ) → FrameWriteGiven f d (Ok n) d' → take n d' ≡ encode f
written_front f d d' n w =
    let a = wrote_all (fits f) (encode f) d n d' w in
    rw (a.2, a.3) (take_at (encode f) (drop (length (encode f)) d) (length (encode f)) refl)

-- reading what was written gives it back
pub read_write : (f : FrameValue) (d d' : List ℕ) (n : ℕ) → FrameWriteGiven f d (Ok n) d' → read_frame (take n d') ≡ Ok (read_back f)
read_write f d d' n w =
    rw (written_front f d d' n w) (read_encoded f (wrote_all (fits f) (encode f) d n d' w).0)

-- and the payload of a data frame stands behind its four bytes
pub read_write_payload : (p d d' : List ℕ) (n : ℕ) → FrameWriteGiven (payload p) d (Ok n) d' → drop 4 (take n d') ≡ p
unfolding encode
read_write_payload p d d' n w = ap (drop 4) (written_front (payload p) d d' n w)
