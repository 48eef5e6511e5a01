-- The fields of a frame as text.
use Rattle.std.specs.Prelude.{ℕ, List, ◌∷◌, ◌++◌, codes, decimal, Result, Ok, Err}
use Rattle.bits.specs.Answer.{bit_number}
use Rattle.refusals.specs.declared.reasons.Refusal.{Refusal}
use Rattle.frames.specs.declared.shared.Task.{Task}
use Rattle.frames.specs.declared.shapes.DevReg.{DevReg}
use Rattle.frames.specs.declared.shapes.DmaSetup.{DmaSetup}
use Rattle.frames.specs.declared.shapes.Frame.{Frame}
use Rattle.frames.specs.declared.shapes.Frame.TheVariants.{Host, Device, Bits, Setup, Activate, Data, Bist, Pio}
use Rattle.frames.specs.declared.shapes.HostReg.{HostReg}
use Rattle.frames.specs.declared.shapes.PioSetup.{PioSetup}
use Rattle.frames.specs.declared.shapes.SetBits.{SetBits}
use Rattle.call_scripts.specs.Answers.{refused_text}
use Rattle.call_scripts.specs.Rows.{hex_text}

-- behind a blank a field's name, and its number in hex
unfoldable pub field_text : List ℕ → ℕ → List ℕ
field_text name value = 32 ∷ name ++ 61 ∷ hex_text value

-- the fields of a command's bytes
unfoldable pub task_text : Task → List ℕ
task_text t = field_text (codes "lba") t.lba ++ field_text (codes "device") t.device ++ field_text (codes "count") t.count

-- status and error
unfoldable pub status_text : ℕ → ℕ → List ℕ
status_text status error = field_text (codes "status") status ++ field_text (codes "error") error

-- the command of 27h, in front of its bytes
unfoldable pub command_text : HostReg → List ℕ
command_text f = field_text (codes "c") (bit_number f.command_bit) ++ field_text (codes "command") f.command ++ field_text (codes "features") f.features

-- its sector and device
unfoldable pub place_text : ℕ → ℕ → List ℕ
place_text lba device = field_text (codes "lba") lba ++ field_text (codes "device") device

-- the byte that stands behind them
unfoldable pub high_text : ℕ → List ℕ
high_text high = field_text (codes "features_high") high

-- and the count
unfoldable pub count_text : ℕ → ℕ → List ℕ
count_text high count = high_text high ++ field_text (codes "count") count

-- 27h
unfoldable pub host_text : HostReg → List ℕ
host_text f = command_text f ++ place_text f.task.lba f.task.device ++ count_text f.features_high f.task.count ++ field_text (codes "control") f.control

-- 34h
unfoldable pub device_text : DevReg → List ℕ
device_text f = field_text (codes "i") (bit_number f.interrupt) ++ status_text f.status f.error ++ task_text f.task

-- A1h
unfoldable pub bits_text : SetBits → List ℕ
bits_text f = field_text (codes "i") (bit_number f.interrupt) ++ status_text f.status f.error ++ field_text (codes "sactive") f.active

-- the flags of 41h
unfoldable pub flags_text : DmaSetup → List ℕ
flags_text f = field_text (codes "a") (bit_number f.auto) ++ field_text (codes "i") (bit_number f.interrupt) ++ field_text (codes "d") (bit_number f.to_host)

-- 41h
unfoldable pub setup_text : DmaSetup → List ℕ
setup_text f = flags_text f ++ field_text (codes "tag") f.tag ++ field_text (codes "offset") f.offset ++ field_text (codes "byte_count") f.count

-- what 5Fh tells behind its command's bytes
unfoldable pub ending_text : PioSetup → List ℕ
ending_text f = field_text (codes "ending_status") f.ending ++ field_text (codes "byte_count") f.bytes

-- 5Fh
unfoldable pub pio_text : PioSetup → List ℕ
pio_text f = field_text (codes "i") (bit_number f.interrupt) ++ field_text (codes "d") (bit_number f.to_host) ++ status_text f.status f.error ++ task_text f.task ++ ending_text f

-- a kind and its fields; of a data frame the length of its payload, in decimal
abbrev pub fields_text : Frame → List ℕ
fields_text (Host f) = codes "27" ++ host_text f
fields_text (Device f) = codes "34" ++ device_text f
fields_text (Bits f) = codes "A1" ++ bits_text f
fields_text (Setup f) = codes "41" ++ setup_text f
fields_text Activate = codes "39"
fields_text (Data n) = codes "46 payload=" ++ decimal n
fields_text Bist = codes "58"
fields_text (Pio f) = codes "5F" ++ pio_text f

-- the line of a frame that is read, or the refusal's [script-read]
abbrev pub frame_text : Result Frame Refusal → List ℕ
frame_text (Ok frame) = fields_text frame ++ codes "\n"
frame_text (Err refusal) = refused_text refusal
