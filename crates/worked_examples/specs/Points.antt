-- The eleven proved examples: pages and replies of the machine's own calls.
use Rattle.std.specs.Prelude.{◌≡◌, false, List, [], ◌∷◌, map, ℕ, ◌*◌, get_or, take, drop, replicate, Option, Result}
use Rattle.bits.specs.Little.{le_bytes}
use Rattle.refusals.specs.declared.reasons.Refusal.{Refusal}
use Rattle.frames.specs.Cut.{joined_bytes}
use Rattle.frames.specs.Write.{encode}
use Rattle.pages.specs.Read11.{read_counter, counter_answer}
use Rattle.pages.specs.declared.value.CounterValue.{CounterValue}
use Rattle.device_state.specs.State.{blank_record}
use Rattle.replies.specs.Replies.{page10_of, page11_of}
use Rattle.device.specs.Device.{fresh_device}
use Rattle.device.specs.Step.{Step, step_by, step}
use Rattle.rules.specs.Call.{host_frame, happens}
use Rattle.rules.specs.declared.event.DeviceEvent.TheVariants.{OpenPhase, SendData, FinishTags, MediaError}
use Rattle.rules.specs.Act.{act}
use Rattle.device.specs.Lent.{lent}
use Rattle.device.specs.FactsOf.{facts_with}
use Rattle.device.specs.declared.state.Device.{Device}

-- what each of the eleven is of
pub data ExampleName : Type 0 where
  blank_page : ExampleName
  media_error_page : ExampleName
  finished_tags : ExampleName
  sweep_sent : ExampleName
  error_sent : ExampleName
  read_setup : ExampleName
  two_counters : ExampleName
  whole_medium : ExampleName
  whole_from_one : ExampleName
  last_sector : ExampleName
  past_the_last : ExampleName

-- one example: its name, what the definitions give, and what the rules say
pub record Example : Type 0 where
  pub name : ExampleName
  pub given : List ℕ
  pub wanted : List ℕ

-- every example of a list holds [examples]
unfoldable pub Hold : List Example → Type 0
Hold [] = Unit
Hold (e ∷ es) = (e.given ≡ e.wanted) × Hold es

-- the bytes of a step's replies, each as it is written
abbrev pub reply_bytes : Step → List ℕ
reply_bytes s = joined_bytes (map encode s.frames)

-- the last byte of a page, which is its sum byte
abbrev pub last_byte : List ℕ → List ℕ
last_byte page = drop 511 page

-- an answer as its number and its values, which are a value and its width: absent has none
abbrev pub said : Result (Option CounterValue) Refusal → List ℕ
said r = (counter_answer r).number ∷ (counter_answer r).values

-- a fresh device of depth 32, rows 0 and 9 kept
abbrev pub fresh_with : ℕ → Device
fresh_with capacity = fresh_device (record { depth = 32; capacity = capacity; mask = 0x0201 })

-- a queued read: count field, sector, device 40h, tag
abbrev pub queued_read : ℕ → ℕ → ℕ → List ℕ
queued_read count sector tag =
    0x27 ∷ 0x80 ∷ 0x60 ∷ count ∷ get_or (le_bytes 3 sector) 0 0 ∷ get_or (le_bytes 3 sector) 1 0 ∷ get_or (le_bytes 3 sector) 2 0 ∷ 0x40
    ∷ 0 ∷ 0 ∷ 0 ∷ 0 ∷ 8 * tag ∷ 0 ∷ 0 ∷ 0 ∷ 0 ∷ 0 ∷ 0 ∷ 0 ∷ []

-- the smallest reply buffer that will do
abbrev pub room : List ℕ
room = replicate 8196 0

-- what a host frame comes to with a medium of the right length and room enough; that this is the machine's own `step` is `reply_to_is`
abbrev pub reply_to : Device → List ℕ → Step
reply_to d f = step_by d (lent (host_frame f) [] room) (act (facts_with d d.status.phase false false 8196) (host_frame f))

-- READ LOG EXT of page 10h
abbrev pub read_log10 : List ℕ
read_log10 = 0x27 ∷ 0x80 ∷ 0x2F ∷ 0 ∷ 0x10 ∷ 0 ∷ 0 ∷ 0 ∷ 0 ∷ 0 ∷ 0 ∷ 0 ∷ 1 ∷ 0 ∷ 0 ∷ 0 ∷ 0 ∷ 0 ∷ 0 ∷ 0 ∷ []

-- a read of 8 sectors from 60h with tag 5 is outstanding; then its media error at sector 64h
abbrev pub reading : Device
reading = (reply_to (fresh_with 256) (queued_read 8 0x60 5)).state

-- its media error: tag 5, error 40h, sector 64h
abbrev pub failed : Step
failed = step reading (lent (happens (MediaError 5 0x40 0x64)) [] room)

-- reads of a sector each with tags 0 and 5, both sent
abbrev pub sent_with : Device → ℕ → Device
sent_with d tag = (step (step d (lent (happens (OpenPhase tag)) [] room)).state (lent (happens SendData) (replicate 512 0) room)).state

-- of a device of one sector
abbrev pub both_sent : Device
both_sent = sent_with (sent_with (reply_to (reply_to (fresh_with 1) (queued_read 1 0 0)).state (queued_read 1 0 5)).state 0) 5

-- the page of two counters: mask 0201h, values 0 and 3
abbrev pub two_rows : List ℕ
two_rows = page11_of 0x0201 (0 ∷ 0 ∷ 0 ∷ 0 ∷ 0 ∷ 0 ∷ 0 ∷ 0 ∷ 0 ∷ 3 ∷ 0 ∷ 0 ∷ 0 ∷ 0 ∷ 0 ∷ 0 ∷ [])

-- kind, I, status and error of the answer to a queued read
abbrev pub answer : ℕ → ℕ → ℕ → List ℕ
answer capacity count sector = take 4 (reply_bytes (reply_to (fresh_with capacity) (queued_read count sector 0)))

-- the eleven, in one list [examples]
unfoldable pub examples : List Example
examples =
    record { name = blank_page; given = last_byte (page10_of blank_record); wanted = 0x80 ∷ [] }
    ∷ record { name = media_error_page; given = last_byte (page10_of failed.state.errors); wanted = 0xAE ∷ [] }
    ∷ record { name = finished_tags; given = reply_bytes (step both_sent (lent (happens (FinishTags 0x21)) [] room)); wanted = 0xA1 ∷ 0x40 ∷ 0x40 ∷ 0x00 ∷ 0x21 ∷ 0x00 ∷ 0x00 ∷ 0x00 ∷ [] }
    ∷ record { name = sweep_sent; given = take 8 (reply_bytes (reply_to failed.state read_log10)); wanted = 0xA1 ∷ 0x00 ∷ 0x40 ∷ 0x00 ∷ 0xFF ∷ 0xFF ∷ 0xFF ∷ 0xFF ∷ [] }
    ∷ record { name = error_sent; given = reply_bytes failed; wanted = 0xA1 ∷ 0x40 ∷ 0x41 ∷ 0x40 ∷ 0x00 ∷ 0x00 ∷ 0x00 ∷ 0x00 ∷ [] }
    ∷ record { name = read_setup; given = take 1 (drop 1 (reply_bytes (step reading (lent (happens (OpenPhase 5)) [] room)))); wanted = 0x20 ∷ [] }
    ∷ record { name = read_setup; given = take 4 (drop 20 (reply_bytes (step reading (lent (happens (OpenPhase 5)) [] room)))); wanted = 0x00 ∷ 0x10 ∷ 0x00 ∷ 0x00 ∷ [] }
    ∷ record { name = two_counters; given = last_byte two_rows; wanted = 0xB2 ∷ [] }
    ∷ record { name = two_counters; given = said (read_counter two_rows 0x001); wanted = 0 ∷ 0 ∷ 4 ∷ [] }
    ∷ record { name = two_counters; given = said (read_counter two_rows 0x00A); wanted = 0 ∷ 3 ∷ 4 ∷ [] }
    ∷ record { name = two_counters; given = said (read_counter two_rows 0x002); wanted = 0 ∷ [] }
    ∷ record { name = whole_medium; given = answer 65536 0 0; wanted = 0x34 ∷ 0x00 ∷ 0x40 ∷ 0x00 ∷ [] }
    ∷ record { name = whole_from_one; given = answer 65536 0 1; wanted = 0x34 ∷ 0x40 ∷ 0x41 ∷ 0x10 ∷ [] }
    ∷ record { name = last_sector; given = answer 64 1 63; wanted = 0x34 ∷ 0x00 ∷ 0x40 ∷ 0x00 ∷ [] }
    ∷ record { name = past_the_last; given = answer 64 1 64; wanted = 0x34 ∷ 0x40 ∷ 0x41 ∷ 0x10 ∷ [] } ∷ []
