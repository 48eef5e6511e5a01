-- What the replies of each act may hold: an A1h answers a host frame only with page 10h, which tells an error, and a page only a read of 10h or 11h, or IDENTIFY DEVICE.
use Rattle.std.proofs.Common.{Ok, ◌≡◌, refl, sym, ◌∙◌, Bool, true, false, ◌&&◌, List, append-nil, ℕ, arith}
use mathlib.Core.Path.{subst⁻¹}
use mathlib.Core.Bool.{false≢true}
use Rattle.frames.specs.declared.shared.Task.{Task}
use Rattle.frames.specs.Write.{FrameValue}
use Rattle.frames.specs.declared.shapes.SetBits.{SetBits}
use Rattle.frames.specs.declared.shapes.HostReg.{HostReg}
use Rattle.frames.specs.declared.shapes.Frame.TheVariants as fs
use Rattle.pages.specs.Page10.{read_log}
use Rattle.replies.specs.Replies.{log_replies, activate_if, page10_of}
use Rattle.replies.specs.StateShown.{StateShown}
use Rattle.history.specs.FrameAsks.{asks_page}
use Rattle.history.specs.FrameReading.{frame_asks}
use Rattle.history.specs.Replied.{FrameRead, some, set_bits_in, collect}
use Rattle.history.specs.ReplyRules.{TellsError}
use Rattle.history.proofs.Views.{read_in, page_in}
use Rattle.history.proofs.Hearing.{pio_in}

-- the A1h frames of what is sent
abbrev pub bits_in : List FrameValue → List SetBits
bits_in rs = collect set_bits_in (read_in rs)

-- some A1h
abbrev pub some_bits : List FrameValue → Bool
some_bits rs = some (λ f. true) (bits_in rs)

-- of a host frame that is read as f, and its replies
pub record FrameSays (f : FrameRead) (rs : List FrameValue) : Type 0 where
  pub swept : some_bits rs ≡ true → (frame_asks f).reads 0x10 && pio_in rs ≡ true
  pub tells : some_bits rs ≡ true → TellsError (read_log (page_in rs))
  pub paged : pio_in rs ≡ true → asks_page (frame_asks f) ≡ true

-- no A1h and no page
pub mild : (f : FrameRead) (rs : List FrameValue) → some_bits rs ≡ false → pio_in rs ≡ false → FrameSays f rs
mild f rs a b = record { swept = λ x. absurd (false≢true (sym a ∙ x)); tells = λ x. absurd (false≢true (sym a ∙ x)); paged = λ x. absurd (false≢true (sym b ∙ x)) }

-- page 10h tells an error
abbrev pub Telling : StateShown → Type 0
Telling s = TellsError (read_log (page10_of s.errors))

-- page 10h, with or without the sweep
pub ten_said : (h : HostReg) (task : Task) (page : List ℕ) → (frame_asks (Ok (fs.Host h))).reads 0x10 ≡ true → (on : Bool) → (on ≡ true → TellsError (read_log page)) → FrameSays (Ok (fs.Host h)) (log_replies on task page)
unfolding some collect
ten_said h task page t true k = record { swept = λ _. rw t; tells = λ _. subst⁻¹ (λ (l : List ℕ). TellsError (read_log l)) (append-nil page) (k refl); paged = λ _. rw t }
ten_said h task page t false k = record { swept = λ _. rw t; tells = λ x. absurd (false≢true x); paged = λ _. rw t }

-- page 11h
pub eleven_said : (h : HostReg) (task : Task) (page : List ℕ) → (frame_asks (Ok (fs.Host h))).reads 0x11 ≡ true → FrameSays (Ok (fs.Host h)) (log_replies false task page)
unfolding some collect
eleven_said h task page t = grind arith

-- IDENTIFY DEVICE
pub identity_said : (h : HostReg) (task : Task) (page : List ℕ) → (frame_asks (Ok (fs.Host h))).identifies ≡ true → FrameSays (Ok (fs.Host h)) (log_replies false task page)
unfolding some collect
identity_said h task page t = grind arith

-- an Activate or none
pub kept_said : (f : FrameRead) (on : Bool) → FrameSays f (activate_if on)
unfolding some collect
kept_said f on = grind arith
