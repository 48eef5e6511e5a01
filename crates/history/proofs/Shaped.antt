-- When replies are of a shape that they may have: one of those that the call may have; a 34h with ERR answers a command, one without it none but a queued one, and a 5Fh has no ERR.
use Rattle.std.proofs.Common.{Ok, ◌≡◌, sym, ◌∙◌, Bool, true, false, not, true≢false, List, [], ◌∷◌, map, inl, ℕ, arith}
use mathlib.Core.Bool.{false≢true}
use Rattle.frames.specs.declared.shared.Task.{Task}
use Rattle.frames.specs.Write.{FrameValue}
use Rattle.frames.specs.declared.shapes.HostReg.{HostReg}
use Rattle.frames.specs.declared.shapes.Frame.TheVariants as fs
use Rattle.rules.specs.Decide.{is_queued}
use Rattle.replies.specs.Replies.{activate_if, log_replies}
use Rattle.rules.specs.Call.{Call}
use Rattle.history.specs.FrameAsks.{Asked, data_asks}
use Rattle.history.specs.FrameReading.{frame_asks, frame_replies}
use Rattle.history.specs.Reading.{call_asks, call_replies}
use Rattle.history.specs.Replied.{FrameRead, some, err_in, register_in, collect, faulty_in}
use Rattle.history.specs.Shapes.{kind_of, OneOf, command_replies}
use Rattle.history.proofs.Views.{read_in}

-- the kinds of what is sent
abbrev pub kinds_of : List FrameValue → List ℕ
kinds_of rs = map kind_of (read_in rs)

-- a 34h with ERR stands among frames
abbrev pub erring_in : List FrameRead → Bool
erring_in l = some (λ r. err_in r.status) (collect register_in l)

-- and is sent
abbrev pub erring : List FrameValue → Bool
erring rs = erring_in (read_in rs)

-- a 34h without ERR stands among frames
abbrev pub granting_in : List FrameRead → Bool
granting_in l = some (λ r. not (err_in r.status)) (collect register_in l)

-- and is sent
abbrev pub granting : List FrameValue → Bool
granting rs = granting_in (read_in rs)

-- a 5Fh with ERR is sent
abbrev pub sends_faulty : List FrameValue → Bool
sends_faulty rs = faulty_in (read_in rs)

-- what is sent is one of what may be, and its ERR is where it may be
pub record Shaped (may : List (List ℕ)) (k : Asked) (rs : List FrameValue) : Type 0 where
  pub shape : OneOf (kinds_of rs) may
  pub blames : erring rs ≡ true → k.command ≡ true
  pub ungranted : k.command ≡ true → k.queued ≡ false → granting rs ≡ false
  pub faultless : sends_faulty rs ≡ false

-- of a call
abbrev pub CallShaped : Call → List FrameValue → Type 0
CallShaped c rs = Shaped (call_replies c) (call_asks c) rs

-- to what is no command: without a 34h with ERR, and without a 5Fh with ERR
pub unblamed : {may : List (List ℕ)} {k : Asked} (rs : List FrameValue) → k.command ≡ false → OneOf (kinds_of rs) may → erring rs ≡ false → sends_faulty rs ≡ false → Shaped may k rs
unblamed rs c o e f = record { shape = o; blames = λ y. absurd (false≢true (sym e ∙ y)); ungranted = λ y _. absurd (false≢true (sym c ∙ y)); faultless = f }

-- ---- a host frame

-- a command
module _ (h : HostReg) (c : h.command_bit ≡ true) where
  -- that is queued: one 34h
  pub to_queued : is_queued h ≡ true → (rs : List FrameValue) → kinds_of rs ≡ 0x34 ∷ [] → sends_faulty rs ≡ false → Shaped (frame_replies (Ok (fs.Host h))) (frame_asks (Ok (fs.Host h))) rs
  to_queued q rs o f = record { shape = rw c (inl o); blames = λ _. c; ungranted = λ _ n. absurd (true≢false (sym (rw (c, q)) ∙ n)); faultless = f }

  -- that is not
  pub to_other : (rs : List FrameValue) → OneOf (kinds_of rs) command_replies → granting rs ≡ false → sends_faulty rs ≡ false → Shaped (frame_replies (Ok (fs.Host h))) (frame_asks (Ok (fs.Host h))) rs
  to_other rs o g f = record { shape = rw c o; blames = λ _. c; ungranted = λ _ _. g; faultless = f }

  -- by a page, behind the sweep or not
  pub to_log : (on : Bool) (task : Task) (page : List ℕ) → Shaped (frame_replies (Ok (fs.Host h))) (frame_asks (Ok (fs.Host h))) (log_replies on task page)
  unfolding some collect
  to_log on task page = grind arith

-- host data: an Activate if more is left
pub to_data : (n : ℕ) (on : Bool) → Shaped (frame_replies (Ok (fs.Data n))) (data_asks n) (activate_if on)
unfolding some collect
to_data n on = grind arith
