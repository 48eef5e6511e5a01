-- What an event may say after those before it: which replies, in which order, and which tags, errors and pages they may tell of.
-- All of it follows from the tables (`reply_rules_follow`): Answered says every byte. Here it stands in the words of the rules, for whoever reads an archive frame by frame.
use Rattle.std.specs.Prelude.{◌≡◌, true, false, ◌||◌, List, [], ◌∷◌, map, ℕ, ◌+◌, ◌<◌, Result, Ok, Err}
use Rattle.bits.specs.Bit.{bit_in}
use Rattle.pages.specs.Page10.{read_log}
use Rattle.refusals.specs.declared.reasons.Refusal.{Refusal}
use Rattle.pages.specs.declared.page10.ErrorLog.{ErrorLog}
use Rattle.history.specs.Event.{Event, taken, replied}
use Rattle.history.specs.FrameAsks.{asks_page}
use Rattle.history.specs.Asked.{asks}
use Rattle.history.specs.Reading.{Speech, none_finished, set_finished, error_told, call_says, call_replies}
use Rattle.history.specs.Replied.{frames, some, err_in, register_in, collect, faulty_in, paged, page}
use Rattle.history.specs.Shapes.{kinds, OneOf}
use Rattle.history.specs.Seen.{Seen, seen, Transfer, errs, accepts}
use Rattle.history.specs.Fates.{ends, one, total, total_with}
use Rattle.history.specs.Waits.{waits}

-- nothing is finished; where this is said it follows from the shapes, and at a media error from its ERR
abbrev pub FinishesNone : Event → Type 0
FinishesNone e = (t : ℕ) → (seen e).finishes t ≡ false

-- by what its call may say: just a set finished, and no ERR; ERR, and nothing finished; nothing finished [said] [no-err]
abbrev pub Spoken : Event → Speech → Type 0
Spoken e none_finished = FinishesNone e
Spoken e (set_finished s) = taken e ≡ true → ((seen e).fails ≡ false) × ((t : ℕ) → (seen e).finishes t ≡ bit_in 32 s t)
Spoken e error_told = (taken e ≡ true → (seen e).fails ≡ true) × FinishesNone e

-- page 10h as its reader answers: it is not refused, and its status has ERR [sweep-clean]
abbrev pub TellsError : Result ErrorLog Refusal → Type 0
TellsError (Ok f) = err_in f.status ≡ true
TellsError (Err r) = ⊥

-- the sweep in an event e after a history h: sent only while an error waits, with page 10h, to a host that asked for it; it has no ERR itself, and the page behind it has [sweep-clean]
pub record Swept (e : Event) (h : List Seen) : Type 0 where
  pub waiting : waits h ≡ true
  pub answers : (seen e).delivers 0x10 ≡ true
  pub clean : (seen e).fails ≡ false
  pub tells : TellsError (read_log (page e))

-- an event e after a history h [said] [shapes]
pub record ReplyRules (e : Event) (h : List Seen) : Type 0 where
  -- a refused call replies nothing; a taken one has one of the replies that it may have, so that each can be read
  pub silent : taken e ≡ false → replied e ≡ []
  pub shaped : taken e ≡ true → OneOf (kinds e) (call_replies e.call)
  -- a 34h with ERR answers a command: the signature has none [err-to-command]
  pub blames : some (λ r. err_in r.status) (collect register_in (frames e)) ≡ true → (asks e).command ≡ true
  -- a command that is not queued has no good 34h: its good answer is a page [good-is-page]
  pub ungranted : (seen e).asks.command ≡ true → (seen e).asks.queued ≡ false → (seen e).good ≡ false
  -- a 5Fh has no ERR: it announces a good answer
  pub faultless : faulty_in (frames e) ≡ false
  -- a page answers a taken read of page 10h or 11h, or a taken IDENTIFY DEVICE
  pub asked : paged e ≡ true → asks_page (asks e) ≡ true
  -- a page is sent only while nothing is outstanding, and while an error waits page 10h alone [said]
  pub timely : paged e ≡ true → (total h ≡ 0) × (waits h ≡ true → (seen e).delivers 0x10 ≡ true)
  -- what is named finished is outstanding: no dead command is called finished
  pub named : (t : ℕ) → t < 32 → (seen e).finishes t ≡ true → total_with t h ≡ 1
  -- and is what was asked for
  pub spoken : Spoken e (call_says e.call)
  -- a command is answered by no A1h but the sweep
  pub swept : (seen e).sweeps ≡ true → Swept e h
  -- and while an error waits page 10h is delivered only behind it
  pub behind : waits h ≡ true → (seen e).delivers 0x10 ≡ true → (seen e).sweeps ≡ true
  -- the rest follows from silent, shaped and asked, and is said for those who read on
  -- a taken queued command is answered, and good or bad, not both
  pub answered : (seen e).asks.queued ≡ true → one (accepts (seen e)) + one (seen e).bad ≡ 1
  -- data come alone: with them nothing begins and nothing ends
  pub alone : 0 < (seen e).sends + (seen e).asks.brings → ((x : Transfer) → (seen e).begins x ≡ x) × ((t : ℕ) → ends t (seen e) ≡ false)
  -- with an error or a reset nothing begins
  pub shut : errs (seen e) || (seen e).asks.resets ≡ true → (x : Transfer) → (seen e).begins x ≡ x

-- every event
unfoldable pub AllReplyRules : List Event → Type 0
AllReplyRules [] = Unit
AllReplyRules (e ∷ h) = ReplyRules e (map seen h) × AllReplyRules h
