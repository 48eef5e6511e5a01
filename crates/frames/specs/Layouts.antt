-- The layout of each kind, to be laid beside the tables of the rules.
use Rattle.std.specs.Prelude.{List, [], ◌∷◌, ℕ}
use Rattle.frames.specs.Layout.{Piece, byte, bits, number, unnamed, got, piece_at}
use Rattle.frames.specs.declared.kinds.FrameKind.{FrameKind}
use Rattle.frames.specs.declared.kinds.FrameKind.TheVariants.{HostRegister, DeviceRegister, DmaActivate, DmaSetup, Data, BistActivate, PioSetup, SetDeviceBits}

-- that of 27h, 34h and 5Fh: the kind, the named bits of byte 1, bytes 2 and 3, LBA 0-23, device, LBA 24-47, what stands at 11, count, byte 14, what stands at 15 and at 16, bytes 18 and 19
abbrev pub register_layout : ℕ → Piece → Piece → Piece → List Piece
register_layout one eleven fifteen sixteen =
    byte ∷ bits one ∷ byte ∷ byte ∷ number 3 ∷ byte ∷ number 3 ∷ eleven ∷ number 2 ∷ unnamed 1 ∷ fifteen ∷ sixteen ∷ unnamed 2 ∷ []

-- of 46h that of the head, behind which the payload stands [frame-27] [frame-34] [frame-A1] [frame-41] [frame-39] [frame-46] [frame-58] [frame-5F]
abbrev pub layout_of : FrameKind → List Piece
layout_of HostRegister = register_layout 0x80 byte byte (unnamed 2)
layout_of DeviceRegister = register_layout 0x40 (unnamed 1) (unnamed 1) (unnamed 2)
layout_of PioSetup = register_layout 0x60 (unnamed 1) byte (number 2)
layout_of SetDeviceBits = byte ∷ bits 0x40 ∷ bits 0x77 ∷ byte ∷ number 4 ∷ []
layout_of DmaSetup = byte ∷ bits 0xE0 ∷ unnamed 2 ∷ number 4 ∷ unnamed 8 ∷ number 4 ∷ number 4 ∷ unnamed 4 ∷ []
layout_of DmaActivate = byte ∷ unnamed 3 ∷ []
layout_of Data = byte ∷ unnamed 3 ∷ []
layout_of BistActivate = byte ∷ unnamed 11 ∷ []

-- what stands in a frame of a kind, by the byte with which its piece begins
abbrev pub standing : FrameKind → List ℕ → ℕ → ℕ
standing kind l at = got (piece_at (layout_of kind) 0 at) l at
