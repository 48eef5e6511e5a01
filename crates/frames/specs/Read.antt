-- The frames as they are read: unnamed bits and bytes are dropped.
use Rattle.std.specs.Prelude.{not, ◌≡◌, List, [], ◌∷◌, ◌++◌, ℕ, ◌-◌, length, get_or, Result, Ok, Err}
use Rattle.std.specs.Option.{option_map_or}
use Rattle.bits.specs.Pick.{pick}
use Rattle.bits.specs.Bit.{bit_in}
use Rattle.bits.specs.Answer.{Answer, bit_number}
use Rattle.refusals.specs.Number.{number}
use Rattle.refusals.specs.First.{Rung, rung, first_of, refusal_in}
use Rattle.refusals.specs.Told.{answer_unless}
use Rattle.refusals.specs.declared.reasons.Refusal.{Refusal}
use Rattle.refusals.specs.declared.reasons.Refusal.TheVariants.{NoFrame}
use Rattle.frames.specs.Layout.{masks}
use Rattle.frames.specs.Layouts.{layout_of, standing}
use Rattle.frames.specs.Shared.{task_at}
use Rattle.frames.specs.Size.{kind_named, readable}
use Rattle.frames.specs.Told.{frame_told}
use Rattle.frames.specs.declared.kinds.FrameKind.{FrameKind}
use Rattle.frames.specs.declared.kinds.FrameKind.TheVariants as kinds
use Rattle.frames.specs.declared.kinds.FrameKind.TheVariants.{HostRegister, DeviceRegister, SetDeviceBits, DmaSetup, DmaActivate, BistActivate, PioSetup}
use Rattle.frames.specs.declared.shared.Task.{Task}
use Rattle.frames.specs.declared.shapes.Frame.{Frame}
use Rattle.frames.specs.declared.shapes.Frame.TheVariants.{Host, Device, Bits, Setup, Activate, Data, Bist, Pio}

-- the frame of a kind by the bytes with which its pieces begin, and the count of those behind its layout: a data frame leaves its payload where it is. In byte 1, C and A are bit 7, I is bit 6, and D is bit 5 [frame-27] [frame-34] [frame-A1] [frame-41] [frame-5F] [srst-bit]
abbrev pub frame_at : FrameKind → (ℕ → ℕ) → ℕ → Frame
frame_at HostRegister at n = Host (record { command_bit = bit_in 8 (at 1) 7; command = at 2; features = at 3; task = task_at at; features_high = at 11; control = at 15 })
frame_at DeviceRegister at n = Device (record { interrupt = bit_in 8 (at 1) 6; status = at 2; error = at 3; task = task_at at })
frame_at SetDeviceBits at n = Bits (record { interrupt = bit_in 8 (at 1) 6; status = at 2; error = at 3; active = at 4 })
frame_at DmaSetup at n = Setup (record { auto = bit_in 8 (at 1) 7; interrupt = bit_in 8 (at 1) 6; to_host = bit_in 8 (at 1) 5; tag = at 4; offset = at 16; count = at 20 })
frame_at DmaActivate at n = Activate
frame_at BistActivate at n = Bist
frame_at PioSetup at n = Pio (record { interrupt = bit_in 8 (at 1) 6; to_host = bit_in 8 (at 1) 5; status = at 2; error = at 3; task = task_at at; ending = at 15; bytes = at 16 })
frame_at kinds.Data at n = Data n

-- the frame that bytes of a kind are
abbrev pub frame_of : FrameKind → List ℕ → Frame
frame_of kind l = frame_at kind (standing kind l) (length l - length (masks (layout_of kind)))

-- a frame by the byte of its kind, or 24 for an unknown one
unfoldable pub frame_by_kind : ℕ → List ℕ → Result Frame Refusal
frame_by_kind byte l = option_map_or (λ kind. Ok (frame_of kind l)) (kind_named byte) (Err NoFrame)

-- 24: kind unknown or length wrong [refused-24]
abbrev pub ladder24 : List ℕ → List Rung
ladder24 l = rung NoFrame (not (readable (get_or l 0 0) (length l))) ∷ []

-- the frame that the bytes are, or refused [read-back] [frame-read]
unfoldable pub read_frame : List ℕ → Result Frame Refusal
read_frame l = pick (readable (get_or l 0 0) (length l)) (frame_by_kind (get_or l 0 0) l) (Err NoFrame)

-- the values of a command's bytes
abbrev pub task_values : Task → List ℕ
task_values t = t.lba ∷ t.device ∷ t.count ∷ []

-- what a frame tells: its kind and its named fields in the order of the rules
abbrev pub frame_values : Frame → List ℕ
frame_values (Host f) = 0x27 ∷ bit_number f.command_bit ∷ f.command ∷ f.features ∷ task_values f.task ++ f.features_high ∷ f.control ∷ []
frame_values (Device f) = 0x34 ∷ bit_number f.interrupt ∷ f.status ∷ f.error ∷ task_values f.task
frame_values (Bits f) = 0xA1 ∷ bit_number f.interrupt ∷ f.status ∷ f.error ∷ f.active ∷ []
frame_values (Setup f) = 0x41 ∷ bit_number f.auto ∷ bit_number f.interrupt ∷ bit_number f.to_host ∷ f.tag ∷ f.offset ∷ f.count ∷ []
frame_values Activate = 0x39 ∷ []
frame_values (Data n) = 0x46 ∷ n ∷ []
frame_values Bist = 0x58 ∷ []
frame_values (Pio f) = 0x5F ∷ bit_number f.interrupt ∷ bit_number f.to_host ∷ f.status ∷ f.error ∷ task_values f.task ++ f.ending ∷ f.bytes ∷ []

-- what each answer of the reader tells: 0 and the frame's values, or the refusal's number [answer-values]
unfoldable pub frame_answer : Result Frame Refusal → Answer
frame_answer (Ok f) = record { number = 0; values = frame_values f }
frame_answer (Err r) = record { number = number r; values = [] }

-- what the reader promises: the frame that the bytes are, the refusal exactly by its list, and the number and values that this tells [answer-values] [frame-read]
pub record FrameGiven (l : List ℕ) (r : Result Frame Refusal) : Type 0 where
  pub answer : r ≡ read_frame l
  pub refusal : refusal_in r ≡ first_of (ladder24 l)
  pub told : frame_answer r ≡ answer_unless (first_of (ladder24 l)) (frame_told l)
