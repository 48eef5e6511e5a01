-- What every call is answered, byte for byte, by the history before it: from settings, calls, what is lent to them, and the refusals and replies of the calls before it.
use Rattle.std.specs.Prelude.{◌≡◌, Bool, true, false, not, ◌&&◌, ◌||◌, List, [], ◌∷◌, ◌++◌, map, ℕ, ◌+◌, ◌/◌, ◌%◌, ◌^◌, min, eqb, leb, ltb, length, take, drop, Ok}
use Rattle.bits.specs.Pick.{pick}
use Rattle.bits.specs.Laid.{overlay}
use Rattle.frames.specs.Cut.{joined_bytes}
use Rattle.frames.specs.Shared.{srst_of, tag_of, sectors_of}
use Rattle.frames.specs.declared.shared.Task.{Task}
use Rattle.frames.specs.Read.{read_frame}
use Rattle.frames.specs.Write.{FrameValue, device, set_bits, setup, activate, payload, pio, encode}
use Rattle.frames.specs.declared.shapes.HostReg.{HostReg}
use Rattle.frames.specs.declared.shapes.Frame.TheVariants.{Host, Data}
use Rattle.pages.specs.Layout11.{page11}
use Rattle.pages.specs.Page10.{page10}
use Rattle.identity.specs.Page.{identity_page}
use Rattle.rules.specs.Call.{Call, host_frame, happens}
use Rattle.rules.specs.declared.event.DeviceEvent.TheVariants.{OpenPhase, SendData, FinishTags, MediaError, LinkEvent, LinkTally, Comreset}
use Rattle.history.specs.Event.{Event, taken}
use Rattle.history.specs.Replied.{FrameRead}
use Rattle.history.specs.Seen.{seen}
use Rattle.history.specs.Fates.{Command, commands, own_tag, outstanding, total}
use Rattle.history.specs.Waits.{waits}
use Rattle.history.specs.Carried.{size}
use Rattle.history.specs.ByHistory.{is_out, under_way_after, left_in_transfer, holding}
use Rattle.history.specs.Placed.{due_place}
use Rattle.history.specs.Counted.{counts}
use Rattle.history.specs.Logged.{log_by}

-- ---- frames

-- a device register reply repeats bytes 4-10 and 12-13 of the command. Good: status 40h, error 0, I 0. Bad: status 41h, I 1, error as named
abbrev pub answered_good : Task → FrameValue
answered_good task = device (record { interrupt = false; status = 0x40; error = 0; task = task })

abbrev pub answered_bad : ℕ → Task → FrameValue
answered_bad error task = device (record { interrupt = true; status = 0x41; error = error; task = task })

-- signature: 34h, I 0, status 40h, error 01h, bytes 4 and 12 01h, rest 0
abbrev pub signature_reply : FrameValue
signature_reply = device (record { interrupt = false; status = 0x40; error = 0x01; task = record { lba = 1; device = 0; count = 1 } })

-- the sweep: I 0, status 40h, error 0, SActive FFFFFFFFh
abbrev pub sweep_reply : FrameValue
sweep_reply = set_bits (record { interrupt = false; status = 0x40; error = 0; active = 0xFFFF_FFFF })

-- finish: I 1, status 40h, error 0, SActive the set
abbrev pub finished_reply : ℕ → FrameValue
finished_reply set = set_bits (record { interrupt = true; status = 0x40; error = 0; active = set })

-- media error: I 1, status 41h, that error, SActive 0
abbrev pub failed_reply : ℕ → FrameValue
failed_reply error = set_bits (record { interrupt = true; status = 0x41; error = error; active = 0 })

-- PIO Setup and the page: I 1, D 1, status 48h, error 0, ending status 40h, 512 bytes, the command's bytes
abbrev pub page_replies : Task → List ℕ → List FrameValue
page_replies task bytes = pio (record { interrupt = true; to_host = true; status = 0x48; error = 0; task = task; ending = 0x40; bytes = 512 }) ∷ payload bytes ∷ []

-- ---- host frames

-- queued command, first rule that holds. 1: an error waits; 2: tag at or above the depth, or already outstanding; 3: first sector + count above capacity; 4: otherwise good [answered-exactly]
abbrev pub queued_reply : ℕ → ℕ → List Event → HostReg → FrameValue
queued_reply deep capacity h f =
    pick (waits (map seen h)) (answered_bad 0x04 f.task)
    (pick (leb deep (tag_of f.task.count) || is_out (tag_of f.task.count) h) (answered_bad 0x04 f.task)
    (pick (ltb capacity (f.task.lba + sectors_of f.features f.features_high)) (answered_bad 0x10 f.task) (answered_good f.task)))

-- READ LOG EXT (2Fh) of a page is well-formed if byte 4 names it, bytes 5 and 9 are 0, byte 12 is 1 and 13 is 0
abbrev pub well_formed : ℕ → HostReg → Bool
well_formed page f =
    eqb f.command 0x2F && (eqb (f.task.lba % 256) page && (eqb (f.task.lba / 2 ^ 8 % 256) 0 && (eqb (f.task.lba / 2 ^ 32 % 256) 0 && eqb f.task.count 1)))

-- IDENTIFY DEVICE: PIO Setup, then the page of the settings; any other is bad, 04h
abbrev pub identified_replies : ℕ → ℕ → HostReg → List FrameValue
identified_replies deep capacity f =
    pick (eqb f.command 0xEC) (page_replies f.task (identity_page (record { depth = deep; capacity = capacity }))) (answered_bad 0x04 f.task ∷ [])

-- any other command: an error waits and it is no well-formed READ LOG EXT of page 10h; something is outstanding; no well-formed READ LOG EXT at all and no IDENTIFY DEVICE: bad, 04h.
-- A good one: PIO Setup, then page 10h of the last error, while one waits with the sweep before them; or page 11h of what was counted; or the page of IDENTIFY DEVICE [answered-exactly]
abbrev pub other_replies : ℕ → ℕ → ℕ → List Event → HostReg → List FrameValue
other_replies deep capacity mask h f =
    pick (waits (map seen h) && not (well_formed 0x10 f)) (answered_bad 0x04 f.task ∷ [])
    (pick (ltb 0 (total (map seen h))) (answered_bad 0x04 f.task ∷ [])
    (pick (well_formed 0x10 f) (pick (waits (map seen h)) (sweep_reply ∷ []) [] ++ page_replies f.task (page10 (log_by h)))
    (pick (well_formed 0x11 f) (page_replies f.task (page11 mask (counts h))) (identified_replies deep capacity f))))

-- control frame: SRST no reply; with SRST 0, if reset is held, the signature, otherwise nothing [answered-exactly]
abbrev pub control_answer : List Event → HostReg → List FrameValue
control_answer h f = pick (srst_of f.control) [] (pick (holding h) (signature_reply ∷ []) [])

-- by its kind
abbrev pub register_replies : ℕ → ℕ → ℕ → List Event → HostReg → List FrameValue
register_replies deep capacity mask h f =
    pick f.command_bit (pick (eqb f.command 0x60 || eqb f.command 0x61) (queued_reply deep capacity h f ∷ []) (other_replies deep capacity mask h f)) (control_answer h f)

-- a host data frame: if more is left, an Activate follows
abbrev pub data_replies : List Event → ℕ → List FrameValue
data_replies h n = pick (ltb n (left_in_transfer false (under_way_after h))) (activate ∷ []) []

-- a BIST Activate has no reply, and a frame of another kind is not taken
abbrev pub host_replies : ℕ → ℕ → ℕ → List Event → FrameRead → List FrameValue
host_replies deep capacity mask h (Ok (Host f)) = register_replies deep capacity mask h f
host_replies deep capacity mask h (Ok (Data n)) = data_replies h n
host_replies deep capacity mask h _ = []

-- ---- device events

-- open a phase: DMA Setup (A 0, I 0, offset 0, whole byte count; D 1 to the host); for a write an Activate follows. Of the outstanding command with the tag, of which there is at most one [answered-exactly]
abbrev pub opened_by : ℕ → Command → List FrameValue
opened_by t c =
    setup (record { auto = false; interrupt = false; to_host = not c.accepted.asks.write; tag = t; offset = 0; count = size c }) ∷ pick c.accepted.asks.write (activate ∷ []) []

unfoldable pub opened_replies : ℕ → List Command → List FrameValue
opened_replies t [] = []
opened_replies t (c ∷ cs) = pick (eqb (own_tag c) t && outstanding c) (opened_by t c) (opened_replies t cs)

-- send: one data frame, as much as is left up to 8,192 bytes, of the medium where the next byte of the command stands
abbrev pub sent_reply : List Event → List ℕ → FrameValue
sent_reply h medium = payload (take (min 8192 (left_in_transfer true (under_way_after h))) (drop (due_place h) medium))

-- what a taken call c is answered after a history h, with the medium lent to it
unfoldable pub replies_by : ℕ → ℕ → ℕ → List Event → List ℕ → Call → List FrameValue
replies_by deep capacity mask h medium (host_frame f) = host_replies deep capacity mask h (read_frame f)
replies_by deep capacity mask h medium (happens (OpenPhase t)) = opened_replies t (commands (map seen h))
replies_by deep capacity mask h medium (happens SendData) = sent_reply h medium ∷ []
replies_by deep capacity mask h medium (happens (FinishTags s)) = finished_reply s ∷ []
replies_by deep capacity mask h medium (happens (MediaError t error sector)) = failed_reply error ∷ []
replies_by deep capacity mask h medium (happens (LinkEvent r)) = []
replies_by deep capacity mask h medium (happens (LinkTally ns)) = []
replies_by deep capacity mask h medium (happens Comreset) = signature_reply ∷ []

-- the bytes of an event's replies, one frame behind the other; a refused call has none
abbrev pub answer : ℕ → ℕ → ℕ → List Event → Event → List ℕ
answer deep capacity mask h e = joined_bytes (map encode (pick (taken e) (replies_by deep capacity mask h e.medium e.call) []))

-- an event was answered just these bytes: so many, they stand in front of the reply buffer, and the rest of it is as it was
pub record AnsweredBy (bytes : List ℕ) (e : Event) : Type 0 where
  pub len : e.len ≡ length bytes
  pub filled : e.filled ≡ overlay bytes e.buffer

-- of every event [answered-exactly]
unfoldable pub Answers : ℕ → ℕ → ℕ → List Event → Type 0
Answers deep capacity mask [] = Unit
Answers deep capacity mask (e ∷ h) = AnsweredBy (answer deep capacity mask h e) e × Answers deep capacity mask h
