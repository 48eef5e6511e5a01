-- What page 10h tells, whenever it is sent: the last error that was raised since the last reset, with the bytes of the command that raised it. From calls, refusals and frames alone.
use Rattle.std.specs.Prelude.{◌≡◌, Bool, true, false, not, ◌&&◌, List, [], ◌∷◌, map, ℕ, eqb, Ok}
use Rattle.bits.specs.Pick.{pick}
use Rattle.frames.specs.declared.shared.Task.{Task}
use Rattle.frames.specs.Read.{read_frame}
use Rattle.frames.specs.declared.shapes.HostReg.{HostReg}
use Rattle.frames.specs.declared.shapes.DevReg.{DevReg}
use Rattle.frames.specs.declared.shapes.Frame.TheVariants.{Host}
use Rattle.pages.specs.Page10.{page10, read_log}
use Rattle.pages.specs.declared.page10.ErrorLog.{ErrorLog}
use Rattle.rules.specs.Call.{Call, host_frame, happens}
use Rattle.rules.specs.declared.event.DeviceEvent.TheVariants.{MediaError}
use Rattle.history.specs.Event.{Event}
use Rattle.history.specs.FrameAsks.{register_asks}
use Rattle.history.specs.Replied.{FrameRead, frames, register_in, collect, page}
use Rattle.history.specs.Seen.{Seen, seen, accepts}
use Rattle.history.specs.Waits.{raises, waits}

-- ---- the bytes of a command

-- no command
abbrev pub no_task : Task
no_task = record { lba = 0; device = 0; count = 0 }

-- bytes 4-10 and 12-13 of a register frame
abbrev pub frame_task : FrameRead → Task
frame_task (Ok (Host f)) = f.task
frame_task _ = no_task

-- of a call; a device event brings none
abbrev pub call_task : Call → Task
call_task (host_frame f) = frame_task (read_frame f)
call_task _ = no_task

-- those of the newest command accepted with tag t; while one of this tag is outstanding, it is that one [errors-told]
unfoldable pub named_by : ℕ → List Event → Task
named_by t [] = no_task
named_by t (e ∷ h) = pick (accepts (seen e) && eqb (seen e).asks.tag t) (call_task e.call) (named_by t h)

-- ---- an error

-- blank: byte 0 is 80h, rest 0
abbrev pub blank_log : ErrorLog
blank_log = record { nq = true; tag = 0; status = 0; error = 0; task = no_task }

-- the error byte of the first 34h
abbrev pub first_error : List DevReg → ℕ
first_error [] = 0
first_error (r ∷ rs) = r.error

-- the error byte that a command was answered
abbrev pub error_in : Event → ℕ
error_in e = first_error (collect register_in (frames e))

-- a command answered with an error: NQ if it is not queued, and then the tag is 0; status 41h, the error as answered, the command's bytes
abbrev pub register_log : ℕ → HostReg → ErrorLog
register_log error f = record { nq = not (register_asks f).queued; tag = pick (register_asks f).queued (register_asks f).tag 0; status = 0x41; error = error; task = f.task }

-- by its kind: no other frame is a command
abbrev pub frame_log : ℕ → FrameRead → ErrorLog
frame_log error (Ok (Host f)) = register_log error f
frame_log error _ = blank_log

-- a media error: its tag, its error byte, and the bytes of the command of this tag, but 4-6 and 8-10 hold the failing sector
abbrev pub media_log : ℕ → ℕ → ℕ → Task → ErrorLog
media_log t error sector task = record { nq = false; tag = t; status = 0x41; error = error; task = record { lba = sector; device = task.device; count = task.count } }

-- what a call that raises an error leaves to be read, if a command was answered with this error byte; no other call raises one
abbrev pub call_log : ℕ → List Event → Call → ErrorLog
call_log answered h (host_frame f) = frame_log answered (read_frame f)
call_log answered h (happens (MediaError t error sector)) = media_log t error sector (named_by t h)
call_log answered h _ = blank_log

-- ---- the record

-- a halt: an error is raised while none waits
abbrev pub halts_at : Seen → List Seen → Bool
halts_at e h = raises e h && not (waits h)

-- it stays until the next halt, which sets it to what was raised, or SRST or COMRESET, which clear it; reading leaves it
abbrev pub log_next : Seen → List Seen → ErrorLog → ErrorLog → ErrorLog
log_next e h raised log = pick (halts_at e h) raised (pick e.asks.resets blank_log log)

-- what it is after a history, blank at power-on [errors-told]
unfoldable pub log_by : List Event → ErrorLog
log_by [] = blank_log
log_by (e ∷ h) = log_next (seen e) (map seen h) (call_log (error_in e) h e.call) (log_by h)

-- it tells the record, byte for byte, and its reader gives each field
pub record TellsHalt (e : Event) (h : List Event) : Type 0 where
  pub bytes : page e ≡ page10 (log_by h)
  pub fields : read_log (page e) ≡ Ok (log_by h)

-- of every page 10h delivered, however often it is read [errors-told]
unfoldable pub LogTold : List Event → Type 0
LogTold [] = Unit
LogTold (e ∷ h) = ((seen e).delivers 0x10 ≡ true → TellsHalt e h) × LogTold h
