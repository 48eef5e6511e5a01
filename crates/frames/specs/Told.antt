-- What a frame tells by its bytes, as the tables of the rules have them: said anew, by no layout.
use Rattle.std.specs.Prelude.{List, [], ◌∷◌, ◌++◌, ℕ, ◌+◌, ◌-◌, ◌*◌, ◌/◌, ◌%◌, ◌^◌, length, get_or}
use Rattle.std.specs.Option.{option_map_or}
use Rattle.bits.specs.Little.{le_at}
use Rattle.frames.specs.Size.{kind_named}
use Rattle.frames.specs.declared.kinds.FrameKind.{FrameKind}
use Rattle.frames.specs.declared.kinds.FrameKind.TheVariants.{HostRegister, DeviceRegister, SetDeviceBits, DmaSetup, DmaActivate, Data, BistActivate, PioSetup}

-- a bit of byte 1, as a number
abbrev pub flag_at : List ℕ → ℕ → ℕ
flag_at l k = get_or l 1 0 / 2 ^ k % 2

-- bits 4-6 and 0-2 of byte 2, in their places [frame-A1]
abbrev pub halves_at : List ℕ → ℕ
halves_at l = get_or l 2 0 / 16 % 8 * 16 + get_or l 2 0 % 8

-- the LBA of bytes 8-10 and 4-6, device, count, where 27h, 34h, 5Fh and page 10h have them [numbers]
abbrev pub task_told : List ℕ → List ℕ
task_told l = (le_at l 8 3 * 2 ^ 24 + le_at l 4 3) ∷ get_or l 7 0 ∷ le_at l 12 2 ∷ []

-- byte 0, which is the kind, and its named fields in the order of the tables [frame-27] [frame-34] [frame-A1] [frame-41] [frame-5F]
abbrev pub kind_told : FrameKind → List ℕ → List ℕ
kind_told HostRegister l = get_or l 0 0 ∷ flag_at l 7 ∷ get_or l 2 0 ∷ get_or l 3 0 ∷ task_told l ++ get_or l 11 0 ∷ get_or l 15 0 ∷ []
kind_told DeviceRegister l = get_or l 0 0 ∷ flag_at l 6 ∷ get_or l 2 0 ∷ get_or l 3 0 ∷ task_told l
kind_told SetDeviceBits l = get_or l 0 0 ∷ flag_at l 6 ∷ halves_at l ∷ get_or l 3 0 ∷ le_at l 4 4 ∷ []
kind_told DmaSetup l = get_or l 0 0 ∷ flag_at l 7 ∷ flag_at l 6 ∷ flag_at l 5 ∷ le_at l 4 4 ∷ le_at l 16 4 ∷ le_at l 20 4 ∷ []
kind_told DmaActivate l = get_or l 0 0 ∷ []
kind_told Data l = get_or l 0 0 ∷ (length l - 4) ∷ []
kind_told BistActivate l = get_or l 0 0 ∷ []
kind_told PioSetup l = get_or l 0 0 ∷ flag_at l 6 ∷ flag_at l 5 ∷ get_or l 2 0 ∷ get_or l 3 0 ∷ task_told l ++ get_or l 15 0 ∷ le_at l 16 2 ∷ []

-- what the bytes tell, where the first names a kind [answer-values]
abbrev pub frame_told : List ℕ → List ℕ
frame_told l = option_map_or (λ kind. kind_told kind l) (kind_named (get_or l 0 0)) []
