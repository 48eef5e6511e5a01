-- There and back: what the reader sees of a frame that was sent, and the frame that is sent again of one that was read.
use Rattle.std.specs.Prelude.{List, [], ◌∷◌, ℕ, suc, length, get_or, drop}
use Rattle.std.specs.Int.Bits.{bit_and}
use Rattle.std.specs.Option.{option_map_or}
use Rattle.frames.specs.Layout.{masks}
use Rattle.frames.specs.Layouts.{layout_of}
use Rattle.frames.specs.Size.{kind_named}
use Rattle.frames.specs.Write.{FrameValue, host, device, set_bits, setup, activate, payload, bist, pio}
use Rattle.frames.specs.declared.shapes.Frame.{Frame}
use Rattle.frames.specs.declared.shapes.Frame.TheVariants.{Host, Device, Bits, Setup, Activate, Data, Bist, Pio}

-- what the reader sees of a frame; of a payload, its length
abbrev pub read_back : FrameValue → Frame
read_back (host f) = Host f
read_back (device f) = Device f
read_back (set_bits f) = Bits f
read_back (setup f) = Setup f
read_back activate = Activate
read_back (payload p) = Data (length p)
read_back bist = Bist
read_back (pio f) = Pio f

-- what was read of l, to be sent again
abbrev pub again : List ℕ → Frame → FrameValue
again l (Host f) = host f
again l (Device f) = device f
again l (Bits f) = set_bits f
again l (Setup f) = setup f
again l Activate = activate
again l (Data n) = payload (drop 4 l)
again l Bist = bist
again l (Pio f) = pio f

-- the named bits of a byte's kind, byte by byte; every other bit is written 0 and dropped on reading [dropped]
unfoldable pub named_bits : ℕ → List ℕ
named_bits byte = option_map_or (λ kind. masks (layout_of kind)) (kind_named byte) []

-- of the bytes of l from place i on, the bits that the masks keep; behind the last mask all, as in a payload
abbrev pub masked_from : ℕ → List ℕ → List ℕ → List ℕ
masked_from i [] l = drop i l
masked_from i (m ∷ ms) l = bit_and (get_or l i 0) m ∷ masked_from (suc i) ms l

-- a frame with its dropped bits zeroed [dropped]
abbrev pub zeroed : List ℕ → List ℕ
zeroed l = masked_from 0 (named_bits (get_or l 0 0)) l
