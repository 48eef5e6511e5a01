-- What `write` is given.
use Rattle.std.specs.Prelude.{ℕ, ◌+◌, ◌-◌, ◌^◌, Bool, zero, suc, eqb, List, [], ◌∷◌, ◌++◌, length, codes, slice_get, Option, Some, None}
use Rattle.std.specs.Option.{option_map}
use Rattle.bits.specs.Pick.{pick}
use Rattle.frames.specs.Size.{kind_named}
use Rattle.frames.specs.declared.kinds.FrameKind.{FrameKind}
use Rattle.frames.specs.declared.kinds.FrameKind as kind
use Rattle.frames.specs.declared.shared.Task.{Task}
use Rattle.frames.specs.declared.shapes.DevReg.{DevReg}
use Rattle.frames.specs.declared.shapes.DmaSetup.{DmaSetup}
use Rattle.frames.specs.declared.shapes.HostReg.{HostReg}
use Rattle.frames.specs.declared.shapes.PioSetup.{PioSetup}
use Rattle.frames.specs.declared.shapes.SetBits.{SetBits}
use Rattle.pages.specs.declared.page10.ErrorLog.{ErrorLog}
use Rattle.call_scripts.specs.Steps.{◌>>=◌}
use Rattle.call_scripts.specs.Words.{number_at, long_at, short_at, byte_at, named_at}
use Rattle.call_scripts.specs.Names.{named_in}
use Rattle.call_scripts.specs.declared.writings.Target.{Target}
use Rattle.call_scripts.specs.declared.writings.Target as target
use Rattle.call_scripts.specs.declared.writings.FrameFields.{FrameFields}
use Rattle.call_scripts.specs.declared.writings.FrameFields as fields
use Rattle.call_scripts.specs.declared.writings.Writing.{Writing}
use Rattle.call_scripts.specs.declared.writings.Writing as writing

-- each target by its word
abbrev pub targets : List (List ℕ × Target)
targets =
    (codes "frame", target.TheVariants.Frame) ∷
    (codes "10", target.TheVariants.ErrorPage) ∷
    (codes "11", target.TheVariants.CounterPage) ∷
    []

-- what a word names
abbrev pub target_of : List ℕ → Option Target
target_of word = named_in targets word

-- a field of one bit
abbrev pub named_flag : List (List ℕ) → ℕ → List ℕ → Option Bool
named_flag words place name = option_map (λ n. eqb n 1) (named_at words place name 1)

-- of 8 bits
abbrev pub named_byte : List (List ℕ) → ℕ → List ℕ → Option ℕ
named_byte words place name = named_at words place name (2 ^ 8 - 1)

-- of 16
abbrev pub named_short : List (List ℕ) → ℕ → List ℕ → Option ℕ
named_short words place name = named_at words place name (2 ^ 16 - 1)

-- of 32
abbrev pub named_long : List (List ℕ) → ℕ → List ℕ → Option ℕ
named_long words place name = named_at words place name (2 ^ 32 - 1)

-- the fields of a command's bytes: LBA and device from a place on, and the count at another
abbrev pub task_at : List (List ℕ) → ℕ → ℕ → Option Task
task_at words place count_place = do
  lba ← named_at words place (codes "lba=") (2 ^ 64 - 1)
  device ← named_byte words (place + 1) (codes "device=")
  count ← named_short words count_place (codes "count=")
  Some (record { lba = lba; device = device; count = count })

-- 27h
abbrev pub host_at : List (List ℕ) → Option HostReg
host_at words = do
  command_bit ← named_flag words 4 (codes "c=")
  command ← named_byte words 5 (codes "command=")
  features ← named_byte words 6 (codes "features=")
  task ← task_at words 7 10
  high ← named_byte words 9 (codes "features_high=")
  control ← named_byte words 11 (codes "control=")
  Some (record { command_bit = command_bit; command = command; features = features; task = task; features_high = high; control = control })

-- 34h
abbrev pub device_at : List (List ℕ) → Option DevReg
device_at words = do
  interrupt ← named_flag words 4 (codes "i=")
  status ← named_byte words 5 (codes "status=")
  error ← named_byte words 6 (codes "error=")
  task ← task_at words 7 9
  Some (record { interrupt = interrupt; status = status; error = error; task = task })

-- A1h
abbrev pub bits_at : List (List ℕ) → Option SetBits
bits_at words = do
  interrupt ← named_flag words 4 (codes "i=")
  status ← named_byte words 5 (codes "status=")
  error ← named_byte words 6 (codes "error=")
  active ← named_long words 7 (codes "sactive=")
  Some (record { interrupt = interrupt; status = status; error = error; active = active })

-- 41h
abbrev pub setup_at : List (List ℕ) → Option DmaSetup
setup_at words = do
  auto ← named_flag words 4 (codes "a=")
  interrupt ← named_flag words 5 (codes "i=")
  to_host ← named_flag words 6 (codes "d=")
  tag ← named_long words 7 (codes "tag=")
  offset ← named_long words 8 (codes "offset=")
  count ← named_long words 9 (codes "byte_count=")
  Some (record { auto = auto; interrupt = interrupt; to_host = to_host; tag = tag; offset = offset; count = count })

-- 5Fh
abbrev pub pio_at : List (List ℕ) → Option PioSetup
pio_at words = do
  interrupt ← named_flag words 4 (codes "i=")
  to_host ← named_flag words 5 (codes "d=")
  status ← named_byte words 6 (codes "status=")
  error ← named_byte words 7 (codes "error=")
  task ← task_at words 8 10
  ending ← named_byte words 11 (codes "ending_status=")
  bytes ← named_short words 12 (codes "byte_count=")
  Some (record { interrupt = interrupt; to_host = to_host; status = status; error = error; task = task; ending = ending; bytes = bytes })

-- "write frame ROOM 46 SIZE BYTE"
abbrev pub payload_at : List (List ℕ) → Option FrameFields
payload_at words = do
  size ← number_at words 4 16384
  byte ← byte_at words 5
  Some (fields.TheVariants.Data size byte)

-- the fields of a kind
abbrev pub fields_at : List (List ℕ) → FrameKind → Option FrameFields
fields_at words kind.TheVariants.HostRegister = host_at words >>= (λ f. Some (fields.TheVariants.Host f))
fields_at words kind.TheVariants.DeviceRegister = device_at words >>= (λ f. Some (fields.TheVariants.Device f))
fields_at words kind.TheVariants.SetDeviceBits = bits_at words >>= (λ f. Some (fields.TheVariants.Bits f))
fields_at words kind.TheVariants.DmaSetup = setup_at words >>= (λ f. Some (fields.TheVariants.Setup f))
fields_at words kind.TheVariants.DmaActivate = Some fields.TheVariants.Activate
fields_at words kind.TheVariants.BistActivate = Some fields.TheVariants.Bist
fields_at words kind.TheVariants.PioSetup = pio_at words >>= (λ f. Some (fields.TheVariants.Pio f))
fields_at words kind.TheVariants.Data = payload_at words

-- how many words the line of a kind has
abbrev pub kind_words : FrameKind → ℕ
kind_words kind.TheVariants.HostRegister = 12
kind_words kind.TheVariants.DeviceRegister = 10
kind_words kind.TheVariants.SetDeviceBits = 8
kind_words kind.TheVariants.DmaSetup = 10
kind_words kind.TheVariants.DmaActivate = 4
kind_words kind.TheVariants.BistActivate = 4
kind_words kind.TheVariants.PioSetup = 13
kind_words kind.TheVariants.Data = 6

-- "write frame ROOM KIND NAME=N .."
abbrev pub frame_at : List (List ℕ) → Option Writing
frame_at words = do
  byte ← byte_at words 3
  kind ← kind_named byte
  written ← pick (eqb (length words) (kind_words kind)) (fields_at words kind) None
  Some (writing.TheVariants.Frame written)

-- "write 10 ROOM nq=N tag=N status=N error=N lba=N device=N count=N"
abbrev pub log_at : List (List ℕ) → Option ErrorLog
log_at words = do
  nq ← named_flag words 3 (codes "nq=")
  tag ← named_byte words 4 (codes "tag=")
  status ← named_byte words 5 (codes "status=")
  error ← named_byte words 6 (codes "error=")
  task ← task_at words 7 9
  Some (record { nq = nq; tag = tag; status = status; error = error; task = task })

-- values, and one behind them
abbrev pub one_more : Option (List ℕ) → Option ℕ → Option (List ℕ)
one_more front last = front >>= (λ values. last >>= (λ value. Some (values ++ value ∷ [])))

-- so many values from a place on
unfoldable pub values_at : List (List ℕ) → ℕ → ℕ → Option (List ℕ)
values_at words place zero = Some []
values_at words place (suc n) = one_more (values_at words place n) (long_at words (place + n))

-- "write 11 ROOM MASK V0 .. V15"
abbrev pub counters_at : List (List ℕ) → Option Writing
counters_at words = do
  mask ← short_at words 3
  values ← values_at words 4 16
  Some (writing.TheVariants.Counters mask values)

-- what the words of a target's line write
abbrev pub writing_at : List (List ℕ) → Target → Option Writing
writing_at words target.TheVariants.Frame = frame_at words
writing_at words target.TheVariants.ErrorPage = pick (eqb (length words) 10) (log_at words >>= (λ log. Some (writing.TheVariants.ErrorPage log))) None
writing_at words target.TheVariants.CounterPage = pick (eqb (length words) 20) (counters_at words) None

-- what the words of a line write, of which the second names the target [script-line]
abbrev pub writing_of : List (List ℕ) → Option Writing
writing_of words = do
  word ← slice_get words 1
  target ← target_of word
  writing_at words target
