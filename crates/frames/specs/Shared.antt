-- The parts that several frames share. Numbers are little-endian.
use Rattle.std.specs.Prelude.{◌≡◌, Bool, ◌&&◌, List, [], ◌∷◌, ℕ, ◌+◌, ◌*◌, ◌/◌, ◌%◌, ◌^◌, ◌<◌, eqb, ltb}
use Rattle.bits.specs.Pick.{pick}
use Rattle.bits.specs.Bit.{bit_in, bit_byte}
use Rattle.frames.specs.Layout.{byte, number, bytes_of}
use Rattle.frames.specs.Layouts.{register_layout, standing}
use Rattle.frames.specs.declared.kinds.FrameKind.TheVariants.{DeviceRegister}
use Rattle.frames.specs.declared.shared.Task.{Task}
use Rattle.frames.specs.declared.shared.Registers.{Registers}

-- byte 1, bits 7, 6 and 5: A or C, I, D [frame-27] [frame-41]
abbrev pub flags_of : Bool → Bool → Bool → ℕ
flags_of seven six five = bit_byte seven 7 + bit_byte six 6 + bit_byte five 5

-- the command's bytes of 27h, 34h and 5Fh by the bytes with which their pieces begin: LBA, device, count [frame-27] [numbers]
abbrev pub task_at : (ℕ → ℕ) → Task
task_at at = record { lba = at 8 * 2 ^ 24 + at 4; device = at 7; count = at 12 }

-- 4-10 and 12-13, which stand alike in each of them
abbrev pub task_of : List ℕ → Task
task_of l = task_at (standing DeviceRegister l)

-- 27h: 15 control (bit 2 SRST) [srst-bit]
abbrev pub srst_of : ℕ → Bool
srst_of control = bit_in 8 control 2

-- bits 7:3 of byte 12 hold the tag [tag-bits]
abbrev pub tag_of : ℕ → ℕ
tag_of count = count / 8 % 32

-- features and features high are the sector count (0 = 65,536) [sector-count]
abbrev pub sectors_of : ℕ → ℕ → ℕ
sectors_of features high = pick (eqb (high * 256 + features) 0) 65536 (high * 256 + features)

-- the values of the layout that 27h, 34h and 5Fh share
abbrev pub register_values : Registers → List ℕ
register_values r =
    r.kind ∷ r.flags ∷ r.second ∷ r.third ∷ r.task.lba % 2 ^ 24 ∷ r.task.device ∷ r.task.lba / 2 ^ 24 ∷ r.eleven ∷ r.task.count ∷ 0 ∷ r.fifteen ∷ r.bytes ∷ 0 ∷ []

-- the twenty bytes of 27h, 34h and 5Fh; unnamed bytes are written 0 [frame-27]
unfoldable pub register_bytes : Registers → List ℕ
register_bytes r = bytes_of (register_layout 0xFF byte byte (number 2)) (register_values r)

-- x is not too large for k bits
abbrev pub is_below : ℕ → ℕ → Bool
is_below k x = ltb x (2 ^ k)

-- no value of the command's bytes is too large for its bits [unfit-value]
abbrev pub task_fits : Task → Bool
task_fits t = is_below 8 t.device && is_below 16 t.count && is_below 48 t.lba

-- what the code that reads an LBA answers: the number, which is below 2 ^ 48
pub record LbaGiven (l : List ℕ) (r : ℕ) : Type 0 where
  pub value : r ≡ (task_of l).lba
  pub bound : r < 2 ^ 48
