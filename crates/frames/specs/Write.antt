-- The frames as they are written: unnamed bits and bytes are 0.
use Rattle.std.specs.Prelude.{Bool, false, List, [], ◌∷◌, ◌++◌, ℕ, length, Result}
use Rattle.frames.specs.Layout.{bytes_of, all_hold}
use Rattle.frames.specs.Layouts.{layout_of}
use Rattle.frames.specs.Shared.{flags_of, register_values}
use Rattle.frames.specs.Size.{payload_size}
use Rattle.frames.specs.declared.kinds.FrameKind.{FrameKind}
use Rattle.frames.specs.declared.kinds.FrameKind.TheVariants as kinds
use Rattle.frames.specs.Emit.{WriteGiven}
use Rattle.frames.specs.declared.shapes.HostReg.{HostReg}
use Rattle.frames.specs.declared.shapes.DevReg.{DevReg}
use Rattle.frames.specs.declared.shapes.SetBits.{SetBits}
use Rattle.frames.specs.declared.shapes.DmaSetup.{DmaSetup}
use Rattle.frames.specs.declared.shapes.PioSetup.{PioSetup}
use Rattle.refusals.specs.declared.reasons.Refusal.{Refusal}

-- a frame that can be sent: its values, and of a data frame its payload
pub data FrameValue : Type 0 where
  host : HostReg → FrameValue
  device : DevReg → FrameValue
  set_bits : SetBits → FrameValue
  setup : DmaSetup → FrameValue
  activate : FrameValue
  payload : List ℕ → FrameValue
  bist : FrameValue
  pio : PioSetup → FrameValue

-- the kind of a frame
abbrev pub kind_of : FrameValue → FrameKind
kind_of (host f) = kinds.HostRegister
kind_of (device f) = kinds.DeviceRegister
kind_of (set_bits f) = kinds.SetDeviceBits
kind_of (setup f) = kinds.DmaSetup
kind_of activate = kinds.DmaActivate
kind_of (payload p) = kinds.Data
kind_of bist = kinds.BistActivate
kind_of (pio f) = kinds.PioSetup

-- its values, one for each piece of the kind's layout
abbrev pub values_of : FrameValue → List ℕ
values_of (host f) = register_values (record { kind = 0x27; flags = flags_of f.command_bit false false; second = f.command; third = f.features; task = f.task; eleven = f.features_high; fifteen = f.control; bytes = 0 })
values_of (device f) = register_values (record { kind = 0x34; flags = flags_of false f.interrupt false; second = f.status; third = f.error; task = f.task; eleven = 0; fifteen = 0; bytes = 0 })
values_of (set_bits f) = 0xA1 ∷ flags_of false f.interrupt false ∷ f.status ∷ f.error ∷ f.active ∷ []
values_of (setup f) = 0x41 ∷ flags_of f.auto f.interrupt f.to_host ∷ 0 ∷ f.tag ∷ 0 ∷ f.offset ∷ f.count ∷ 0 ∷ []
values_of activate = 0x39 ∷ 0 ∷ []
values_of (payload p) = 0x46 ∷ 0 ∷ []
values_of bist = 0x58 ∷ 0 ∷ []
values_of (pio f) = register_values (record { kind = 0x5F; flags = flags_of false f.interrupt f.to_host; second = f.status; third = f.error; task = f.task; eleven = 0; fifteen = f.ending; bytes = f.bytes })

-- an A1h with another status
abbrev pub with_status : SetBits → ℕ → SetBits
with_status f v = record f { status = v }

-- what stands behind the layout
abbrev pub payload_in : FrameValue → List ℕ
payload_in (payload p) = p
payload_in _ = []

-- the bytes of a frame [read-back] [kinds]
unfoldable pub encode : FrameValue → List ℕ
encode f = bytes_of (layout_of (kind_of f)) (values_of f) ++ payload_in f

-- each value has its place, as status bits 7 and 3 of A1h have none; the payload is 4 to 8,192 bytes in steps of 4 [unfit-value] [unfit-status] [unfit-payload]
unfoldable pub fits : FrameValue → Bool
fits (payload p) = payload_size (length p)
fits f = all_hold (layout_of (kind_of f)) (values_of f)

-- what a writer promises of its frame [frames-below]
abbrev pub FrameWriteGiven : FrameValue → List ℕ → Result ℕ Refusal → List ℕ → Type 0
FrameWriteGiven f d r d' = WriteGiven (fits f) (encode f) d r d'
