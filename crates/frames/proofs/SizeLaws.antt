-- Laws of kinds and of the lengths of frames.
use Rattle.std.proofs.Common.{◌≡◌, true, ℕ, ◌-◌, ◌≤◌, arith, Some}
use Rattle.frames.specs.Size.{kind_named, payload_size}
use Rattle.frames.specs.declared.kinds.FrameKind.{FrameKind}
use Rattle.frames.specs.declared.kinds.FrameKind.TheVariants.{HostRegister, DeviceRegister, DmaActivate, DmaSetup, Data, BistActivate, PioSetup, SetDeviceBits}

-- a payload that is long enough stands behind four bytes
pub payload_4 : (n : ℕ) → payload_size (n - 4) ≡ true → 4 ≤ n
payload_4 n e = grind arith

-- the byte of a kind
abbrev pub moved_byte : FrameKind → ℕ
moved_byte HostRegister = 0x27
moved_byte DeviceRegister = 0x34
moved_byte DmaActivate = 0x39
moved_byte DmaSetup = 0x41
moved_byte Data = 0x46
moved_byte BistActivate = 0x58
moved_byte PioSetup = 0x5F
moved_byte SetDeviceBits = 0xA1

-- a kind is named by its byte alone
pub named_byte : (byte : ℕ) (kind : FrameKind) → kind_named byte ≡ Some kind → byte ≡ moved_byte kind
named_byte byte kind e = grind arith
