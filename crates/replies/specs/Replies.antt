-- Replies as frame values, and their bytes.
use Rattle.std.specs.Prelude.{◌≡◌, Bool, true, false, not, List, [], ◌∷◌, ◌++◌, map, ℕ, length}
use Rattle.bits.specs.Pick.{pick}
use Rattle.bits.specs.Laid.{overlay}
use Rattle.frames.specs.Cut.{joined_bytes}
use Rattle.frames.specs.declared.shared.Task.{Task}
use Rattle.frames.specs.Write.{FrameValue, device, set_bits, setup, activate, payload, pio, encode, fits}
use Rattle.pages.specs.Page10.{page10, fits10}
use Rattle.counters.specs.Rows.{keeps_both}
use Rattle.pages.specs.Layout11.{page11}
use Rattle.pages.specs.declared.page10.ErrorLog.{ErrorLog}
use Rattle.identity.specs.Words.{fits_identity}
use Rattle.identity.specs.Page.{identity_page}
use Rattle.identity.specs.declared.words.Identity.{Identity}
use Rattle.device_state.specs.State.{task_in, whole_of}
use Rattle.device_state.specs.declared.shapes.ErrorRecord.{ErrorRecord}
use Rattle.replies.specs.StateShown.{StateShown}
use Rattle.rules.specs.declared.acts.Queued.{Queued}
use Rattle.rules.specs.declared.acts.Act.{Act}
use Rattle.rules.specs.declared.acts.Act.TheVariants.{Nothing, Bad, BadAndHalt, Accept, Log10, Log11, Identify, Reset, Release, ZeroCounters, Store, Open, Send, Finish, Media, Count, Renew}

-- a device register reply
abbrev pub register : Bool → ℕ → ℕ → Task → FrameValue
register i status error task = device (record { interrupt = i; status = status; error = error; task = task })

-- good: status 40h, error 0, I 0 [good]
abbrev pub good : Task → FrameValue
good task = register false 0x40 0 task

-- bad: status 41h, I 1, error as named [bad]
abbrev pub bad_reply : ℕ → Task → FrameValue
bad_reply error task = register true 0x41 error task

-- signature: 34h, I 0, status 40h, error 01h, bytes 4 and 12 01h, rest 0 [signature]
abbrev pub signature : FrameValue
signature = register false 0x40 0x01 (record { lba = 1; device = 0; count = 1 })

-- the sweep: A1h, I 0, status 40h, error 0, SActive FFFFFFFFh [sweep]
abbrev pub sweep : FrameValue
sweep = set_bits (record { interrupt = false; status = 0x40; error = 0; active = 0xFFFF_FFFF })

-- PIO Setup: I 1, D 1, status 48h, error 0, ending status 40h, 512 bytes, the command's bytes [pio-setup]
abbrev pub pio_reply : Task → FrameValue
pio_reply task = pio (record { interrupt = true; to_host = true; status = 0x48; error = 0; task = task; ending = 0x40; bytes = 512 })

-- DMA Setup: A 0, I 0, offset 0, whole byte count; D 1 to the host [dma-setup]
abbrev pub setup_reply : Queued → FrameValue
setup_reply q =
    setup (record { auto = false; interrupt = false; to_host = not q.entry.write; tag = q.tag; offset = 0; count = whole_of q.entry.count })

-- finish: A1h, I 1, status 40h, error 0, SActive the set [finished]
abbrev pub finish_reply : ℕ → FrameValue
finish_reply set = set_bits (record { interrupt = true; status = 0x40; error = 0; active = set })

-- media error: A1h, I 1, status 41h, that error, SActive 0 [failed]
abbrev pub media_reply : ℕ → FrameValue
media_reply error = set_bits (record { interrupt = true; status = 0x41; error = error; active = 0 })

-- the sweep if halted
abbrev pub sweep_if : Bool → List FrameValue
sweep_if on = pick on (sweep ∷ []) []

-- an Activate if more is left, or a write was opened [host-data]
abbrev pub activate_if : Bool → List FrameValue
activate_if on = pick on (activate ∷ []) []

-- the record as page 10h shows it: status 41h; a blank one is 80h and zeros [record-stays]
abbrev pub log_of : ErrorRecord → ErrorLog
log_of r =
    pick r.set (record { nq = r.nq; tag = r.tag; status = 0x41; error = r.error; task = task_in r.echo })
    (record { nq = true; tag = 0; status = 0; error = 0; task = record { lba = 0; device = 0; count = 0 } })

-- the bytes of a page, none where it cannot be written [blank]
abbrev pub page10_of : ErrorRecord → List ℕ
page10_of r = pick (fits10 (log_of r)) (page10 (log_of r)) []

-- page 11h of the kept rows
abbrev pub page11_of : ℕ → List ℕ → List ℕ
page11_of mask values = pick (keeps_both mask) (page11 mask values) []

-- the page of IDENTIFY DEVICE [identify]
abbrev pub identity_of : Identity → List ℕ
identity_of f = pick (fits_identity f) (identity_page f) []

-- if halted, first the sweep; then PIO Setup; then the page as a data frame [log-replies]
abbrev pub log_replies : Bool → Task → List ℕ → List FrameValue
log_replies on task page = sweep_if on ++ pio_reply task ∷ payload page ∷ []

-- open: DMA Setup; for a write, an Activate follows [open]
abbrev pub open_replies : Queued → List FrameValue
open_replies q = (setup_reply q ∷ []) ++ activate_if q.entry.write

-- the replies of an act; `part` is what of the medium it sends, and the rest is looked up in what the state shows [all-sent]
unfoldable pub replies_of : StateShown → List ℕ → Act → List FrameValue
replies_of s part Nothing = []
replies_of s part (Bad b) = bad_reply b.error b.task ∷ []
replies_of s part (BadAndHalt f) = bad_reply f.error (task_in f.echo) ∷ []
replies_of s part (Accept q) = good (task_in q.entry.echo) ∷ []
replies_of s part (Log10 task) = log_replies s.halted task (page10_of s.errors)
replies_of s part (Log11 l) = log_replies false l.task (page11_of s.mask s.values)
replies_of s part (Identify task) = log_replies false task (identity_of s.identity)
replies_of s part Reset = []
replies_of s part Release = signature ∷ []
replies_of s part ZeroCounters = []
replies_of s part (Store m) = activate_if (not m.last)
replies_of s part (Open q) = open_replies q
replies_of s part (Send m) = payload part ∷ []
replies_of s part (Finish set) = finish_reply set ∷ []
replies_of s part (Media f) = media_reply f.error ∷ []
replies_of s part (Count r) = []
replies_of s part Renew = signature ∷ []

-- what cannot be written is not sent; that every reply of a taken call can be is `whole`
unfoldable pub sent_bytes : FrameValue → List ℕ
sent_bytes f = pick (fits f) (encode f) []

-- the replies follow one another [all-sent]
unfoldable pub sent_all : List FrameValue → List ℕ
sent_all fs = joined_bytes (map sent_bytes fs)

-- what the code that sends frames answers, and what the buffer then holds: the frames in front, and the rest as it was [in-turn]
pub record RepliesGiven (fs : List FrameValue) (d : List ℕ) (r : ℕ) (d' : List ℕ) : Type 0 where
  pub len : r ≡ length (sent_all fs)
  pub bytes : d' ≡ overlay (sent_all fs) d
