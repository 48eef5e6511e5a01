-- How a history reads a call: one row a call.
use Rattle.std.specs.Prelude.{Bool, false, List, [], ◌∷◌, ℕ, eqb, get_or}
use Rattle.bits.specs.Pick.{pick}
use Rattle.bits.specs.Bit.{bit_in}
use Rattle.frames.specs.Read.{read_frame}
use Rattle.rules.specs.Call.{Call, host_frame, happens}
use Rattle.rules.specs.declared.event.DeviceEvent.TheVariants.{OpenPhase, SendData, FinishTags, MediaError, LinkEvent, LinkTally, Comreset}
use Rattle.history.specs.Replied.{FrameRead, data_in}
use Rattle.history.specs.FrameAsks.{Asked, quiet, reset_asks}
use Rattle.history.specs.FrameReading.{frame_asks, frame_zeroes, frame_replies}

-- what a taken call says of commands: none is finished; just a set of tags is finished, without ERR; an error, by an A1h with ERR, and none is finished
pub data Speech : Type 0 where
  none_finished : Speech
  set_finished : ℕ → Speech
  error_told : Speech

-- of a call: what it asks for; its host data; how many events of each row it is, once it is taken;
-- whether it zeroes the counters, by whether a page answers it; what it says; the replies that it may have, by their kinds in their order
pub record Reading : Type 0 where
  pub asks : Asked
  pub host_data_frame : List ℕ
  pub raises : ℕ → ℕ
  pub zeroes : Bool → Bool
  pub says : Speech
  pub replies : List (List ℕ)

-- no event of any row
abbrev pub uncounted : ℕ → ℕ
uncounted k = 0

-- one event of a row
abbrev pub one_of : ℕ → ℕ → ℕ
one_of row k = pick (eqb k row) 1 0

-- a host frame, read by the frame reader's own definition
abbrev pub host_reading : List ℕ → FrameRead → Reading
host_reading p f = record { asks = frame_asks f; host_data_frame = data_in p f; raises = uncounted; zeroes = λ on. frame_zeroes on f; says = none_finished; replies = frame_replies f }

-- a device event brings no host data and zeroes nothing
abbrev pub device_event : Asked → (ℕ → ℕ) → Speech → List (List ℕ) → Reading
device_event k r s rs = record { asks = k; host_data_frame = []; raises = r; zeroes = λ on. false; says = s; replies = rs }

-- open: DMA Setup, and for a write an Activate; send: one data frame; finish and media error: one A1h; link event and tally: none; COMRESET: the signature.
-- A media error whose byte has bit 7 is an event of row 0 (001h), COMRESET of row 9 (00Ah), a link event of its row, a tally as many of each as its amount says.
-- Finish says just its set and no ERR, a media error says ERR, and no other call finishes anything [shapes]
abbrev pub reading_of : Call → Reading
reading_of (host_frame f) = host_reading f (read_frame f)
reading_of (happens (OpenPhase t)) = device_event quiet uncounted none_finished ((0x41 ∷ []) ∷ (0x41 ∷ 0x39 ∷ []) ∷ [])
reading_of (happens SendData) = device_event quiet uncounted none_finished ((0x46 ∷ []) ∷ [])
reading_of (happens (FinishTags s)) = device_event quiet uncounted (set_finished s) ((0xA1 ∷ []) ∷ [])
reading_of (happens (MediaError t e s)) = device_event quiet (pick (bit_in 8 e 7) (one_of 0) uncounted) error_told ((0xA1 ∷ []) ∷ [])
reading_of (happens (LinkEvent r)) = device_event quiet (one_of r) none_finished ([] ∷ [])
reading_of (happens (LinkTally ns)) = device_event quiet (λ k. get_or ns k 0) none_finished ([] ∷ [])
reading_of (happens Comreset) = device_event reset_asks (one_of 9) none_finished ((0x34 ∷ []) ∷ [])

-- ---- each column

-- what a call asks for
abbrev pub call_asks : Call → Asked
call_asks c = (reading_of c).asks

-- its host data
abbrev pub call_brings : Call → List ℕ
call_brings c = (reading_of c).host_data_frame

-- how many events of a row it is
abbrev pub call_raises : ℕ → Call → ℕ
call_raises r c = (reading_of c).raises r

-- it zeroes the counters
abbrev pub call_zeroes : Bool → Call → Bool
call_zeroes on c = (reading_of c).zeroes on

-- what it says
abbrev pub call_says : Call → Speech
call_says c = (reading_of c).says

-- the replies that it may have
abbrev pub call_replies : Call → List (List ℕ)
call_replies c = (reading_of c).replies
