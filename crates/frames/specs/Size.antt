-- Kinds and their lengths.
use Rattle.std.specs.Prelude.{Bool, false, ◌&&◌, ℕ, ◌-◌, ◌%◌, length, eqb, leb, Option, Some, None}
use Rattle.std.specs.Option.{option_eq, option_and_then, option_map_or}
use Rattle.bits.specs.Pick.{pick}
use Rattle.frames.specs.Layout.{masks}
use Rattle.frames.specs.Layouts.{layout_of}
use Rattle.frames.specs.declared.kinds.FrameKind.{FrameKind}
use Rattle.frames.specs.declared.kinds.FrameKind.TheVariants.{HostRegister, DeviceRegister, DmaActivate, DmaSetup, Data, BistActivate, PioSetup, SetDeviceBits}

-- the kind that a byte names, if it names one [kinds]
abbrev pub kind_named : ℕ → Option FrameKind
kind_named byte =
    pick (eqb byte 0x27) (Some HostRegister)
    (pick (eqb byte 0x34) (Some DeviceRegister)
    (pick (eqb byte 0x39) (Some DmaActivate)
    (pick (eqb byte 0x41) (Some DmaSetup)
    (pick (eqb byte 0x46) (Some Data)
    (pick (eqb byte 0x58) (Some BistActivate)
    (pick (eqb byte 0x5F) (Some PioSetup)
    (pick (eqb byte 0xA1) (Some SetDeviceBits) None)))))))

-- the length that a kind fixes, which is its layout's; a data frame's is not fixed
abbrev pub size_of : FrameKind → Option ℕ
size_of Data = None
size_of kind = Some (length (masks (layout_of kind)))

-- the length that a byte's kind fixes; 46h and an unknown kind fix none [kinds]
unfoldable pub fixed_size : ℕ → Option ℕ
fixed_size byte = option_and_then size_of (kind_named byte)

-- a payload is 4 to 8,192 bytes in steps of 4 [data-size] [unfit-payload]
abbrev pub payload_size : ℕ → Bool
payload_size n = leb 4 n && leb n 8192 && eqb (n % 4) 0

-- a frame of a kind may be n bytes long: a data frame 8 to 8,196 in steps of 4, which is a payload behind 4 bytes; any other kind fixes a length, and it is n
abbrev pub allows : FrameKind → ℕ → Bool
allows Data n = payload_size (n - 4)
allows kind n = option_eq eqb (size_of kind) (Some n)

-- the byte names a kind, and a frame of it may be n bytes long [refused-24]
unfoldable pub readable : ℕ → ℕ → Bool
readable byte n = option_map_or (λ kind. allows kind n) (kind_named byte) false
