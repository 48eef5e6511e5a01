-- What was read, written again, is the frame with its dropped bits zeroed.
use Rattle.std.proofs.Common.{Result, Ok, Err, Some, ◌≡◌, T, true, false, List, ℕ, ◌+◌, ◌*◌, ◌/◌, ◌%◌, ◌^◌, ◌<◌, ◌≤◌, arith, bit_and, eqb, eqb→eq, length, get_or, drop, drop_of_length-le, length-drop}
use Rattle.bits.specs.Bit.{bit_in}
use Rattle.bits.specs.Little.{le_at, Bytes}
use Rattle.bits.proofs.Tables.{all_below, below_all}
use Rattle.bits.proofs.Littles.{le_lt}
use Rattle.frames.specs.Layout.{masks}
use Rattle.frames.specs.Layouts.{layout_of}
use Rattle.frames.specs.Shared.{flags_of}
use Rattle.frames.specs.Size.{kind_named, allows}
use Rattle.frames.specs.declared.kinds.FrameKind.{FrameKind}
use Rattle.frames.specs.Read.{frame_of, read_frame}
use Rattle.frames.specs.Write.{FrameValue, kind_of, values_of, payload_in, encode, fits, FrameWriteGiven}
use Rattle.frames.specs.RoundTrip.{again, named_bits, zeroed}
use Rattle.frames.specs.Emit.{WriteGiven}
use Rattle.frames.proofs.LayoutLaws.{values_in, written_again, read_holds, masked_length}
use Rattle.frames.proofs.SizeLaws.{payload_4, named_byte}
use Rattle.frames.proofs.ReadLaws.{by_kind}
use Rattle.refusals.specs.declared.reasons.Refusal.{Refusal}
use Rattle.frames.specs.declared.shapes.Frame.{Frame}

-- byte 1 under a mask: its flags, read and written again, computed
masked : (f : ℕ → ℕ) (m : ℕ) → T (all_below 256 (λ x. eqb (f x) (bit_and x m))) → (b : ℕ) → b < 256 → f b ≡ bit_and b m
masked f m t b h = eqb→eq _ _ (below_all 256 (λ x. eqb (f x) (bit_and x m)) t b h)

-- an LBA
low : (hi lo : ℕ) → lo < 2 ^ 24 → (hi * 2 ^ 24 + lo) % 2 ^ 24 ≡ lo
low hi lo h = omega arith

high : (hi lo : ℕ) → lo < 2 ^ 24 → (hi * 2 ^ 24 + lo) / 2 ^ 24 ≡ hi
high hi lo h = omega arith

module _ (l : List ℕ) (bytes : Bytes l) where
  pub lba_low : (le_at l 8 3 * 2 ^ 24 + le_at l 4 3) % 2 ^ 24 ≡ le_at l 4 3
  lba_low = low (le_at l 8 3) (le_at l 4 3) (le_lt l bytes 4 3)

  pub lba_high : (le_at l 8 3 * 2 ^ 24 + le_at l 4 3) / 2 ^ 24 ≡ le_at l 8 3
  lba_high = high (le_at l 8 3) (le_at l 4 3) (le_lt l bytes 4 3)

  abbrev pub Back : FrameValue → Type 0
  Back f = (fits f ≡ true) × (encode f ≡ zeroed l) × (length (zeroed l) ≡ length l)

  -- the values of what was read of a kind are those that stand there
  abbrev Values : FrameKind → Type 0
  Values kind = values_of (again l (frame_of kind l)) ≡ values_in (layout_of kind) l 0

  values : (kind : FrameKind) → kind_named (get_or l 0 0) ≡ Some kind → Values kind
  values kind e = grind (
    arith,
    named_byte (get_or l 0 0) kind e,
    lba_low,
    lba_high,
    masked (λ x. flags_of (bit_in 8 (bit_and x 0x80) 7) false false) 0x80 tt (get_or l 1 0) (bytes 1),
    masked (λ x. flags_of false (bit_in 8 (bit_and x 0x40) 6) false) 0x40 tt (get_or l 1 0) (bytes 1),
    masked (λ x. flags_of false (bit_in 8 (bit_and x 0x60) 6) (bit_in 8 (bit_and x 0x60) 5)) 0x60 tt (get_or l 1 0) (bytes 1),
    masked (λ x. flags_of (bit_in 8 (bit_and x 0xE0) 7) (bit_in 8 (bit_and x 0xE0) 6) (bit_in 8 (bit_and x 0xE0) 5)) 0xE0 tt (get_or l 1 0) (bytes 1),
  )

  -- so the bytes of a frame that was read are those that stood there, with the dropped bits zeroed
  whole : (kind : FrameKind) → kind_named (get_or l 0 0) ≡ Some kind → length (masks (layout_of kind)) ≤ length l → (f : FrameValue) → kind_of f ≡ kind → values_of f ≡ values_in (layout_of kind) l 0
      → payload_in f ≡ drop (length (masks (layout_of kind))) l → fits f ≡ true → Back f
  unfolding encode named_bits
  whole kind e n f k v p t =
      let z : 0 + length (masks (layout_of kind)) ≡ length (masks (layout_of kind)) = omega arith in
      let w = rw z at (written_again l bytes (layout_of kind) 0) in
      (t, rw (e, k, v, p) w, rw e (omega (arith, masked_length (masks (layout_of kind)) l 0 (omega arith))))

  kind_again : (kind : FrameKind) → kind_of (again l (frame_of kind l)) ≡ kind
  kind_again kind = grind arith

  room : (kind : FrameKind) → allows kind (length l) ≡ true → length (masks (layout_of kind)) ≤ length l
  room kind a = grind (arith, payload_4)

  rest : (kind : FrameKind) → allows kind (length l) ≡ true → payload_in (again l (frame_of kind l)) ≡ drop (length (masks (layout_of kind))) l
  rest kind a = grind (arith, drop_of_length-le)

  held : (kind : FrameKind) → kind_named (get_or l 0 0) ≡ Some kind → allows kind (length l) ≡ true → fits (again l (frame_of kind l)) ≡ true
  unfolding fits
  held kind e a = grind (arith, length-drop 4 l, values kind e, read_holds l bytes (layout_of kind) 0)

  -- what a reader's answer has to give: of a frame, that it can be written
  abbrev Goes : Result Frame Refusal → Type 0
  Goes (Ok f) = Back (again l f)
  Goes (Err r) = Unit

  goes : Goes (read_frame l)
  goes = by_kind Goes l tt (λ kind e a. whole kind e (room kind a) (again l (frame_of kind l)) (kind_again kind) (values kind e) (rest kind a) (held kind e a))

  -- what was read can be written, and its bytes are the frame with its dropped bits zeroed
  pub encoded_again : (f : Frame) → read_frame l ≡ Ok f → Back (again l f)
  encoded_again f e = rw e at goes

  -- writing what was read gives the frame with its dropped bits zeroed: never 25, 26 exactly when the buffer is shorter, and all other bytes stay
  pub write_read : (f : Frame) → read_frame l ≡ Ok f → (d d' : List ℕ) (r : Result ℕ Refusal) → FrameWriteGiven (again l f) d r d' → WriteGiven true (zeroed l) d r d'
  write_read f e d d' r w =
      let b = encoded_again f e in
      rw (b.0, b.1) at w

  -- which is as long as the frame that was read
  pub zeroed_length : (f : Frame) → read_frame l ≡ Ok f → length (zeroed l) ≡ length l
  zeroed_length f e = (encoded_again f e).2
