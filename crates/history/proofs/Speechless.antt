-- When a call says no more than it may, and what it must: by its replies.
use Rattle.std.proofs.Common.{◌≡◌, refl, sym, ap, ◌∙◌, Bool, true, false, not, ◌&&◌, true≢false, List, [], ◌∷◌, ℕ, arith}
use mathlib.Core.Bool.{false≢true, and-false}
use Rattle.bits.specs.Bit.{bit_in}
use Rattle.bits.proofs.Picks.{and_right}
use Rattle.frames.specs.Read.{read_frame}
use Rattle.frames.specs.Write.{FrameValue}
use Rattle.frames.specs.declared.shapes.SetBits.{SetBits}
use Rattle.pages.specs.Page10.{read_log}
use Rattle.rules.specs.Call.{Call, host_frame}
use Rattle.history.specs.FrameAsks.{Asked, asks_page}
use Rattle.history.specs.FrameReading.{frame_asks}
use Rattle.history.specs.Reading.{Speech, none_finished, set_finished, error_told, call_asks, call_says}
use Rattle.history.specs.Replied.{FrameRead, some, err_in}
use Rattle.history.specs.Seen.{Seen, names}
use Rattle.history.specs.ReplyRules.{TellsError}
use Rattle.history.proofs.Views.{page_in, view}
use Rattle.history.proofs.Hearing.{pio_in}
use Rattle.history.proofs.Said.{bits_in, some_bits, FrameSays}

-- ---- replies without an A1h and without a page

-- nothing is finished where no A1h is sent
pub none_finished_lem : (k : Asked) (rs : List FrameValue) → bits_in rs ≡ [] → (t : ℕ) → (view k rs).finishes t ≡ false
unfolding view some
none_finished_lem k rs e t = rw e (and-false (not k.command))

-- what is seen of a taken call, by what it may say: just a set finished, without ERR; ERR, and nothing finished; nothing finished
abbrev pub SpokenBy : Speech → Seen → Type 0
SpokenBy none_finished e = (t : ℕ) → e.finishes t ≡ false
SpokenBy (set_finished s) e = (e.fails ≡ false) × ((t : ℕ) → e.finishes t ≡ bit_in 32 s t)
SpokenBy error_told e = (e.fails ≡ true) × ((t : ℕ) → e.finishes t ≡ false)

-- ---- the sweep

-- where no A1h is, none is so
some_none : (p : SetBits → Bool) (l : List SetBits) → some (λ f. true) l ≡ false → some p l ≡ false
unfolding some
some_none p [] e = refl
some_none p (f ∷ l) e = absurd (true≢false e)

-- no host frame finishes anything
pub host_finishes : (f : FrameRead) (rs : List FrameValue) → FrameSays f rs → (t : ℕ) → (view (frame_asks f) rs).finishes t ≡ false
unfolding view
host_finishes f rs y t =
    let s = y.swept in
    let n = some_none (λ b. not (err_in b.status) && names t b) (bits_in rs) in
    grind arith

-- ---- every call

-- what a taken call's replies rs say: an A1h that answers a command comes with page 10h, which tells an error; a page answers a read of one; and what is finished is what the call may finish
pub record Utters (c : Call) (rs : List FrameValue) : Type 0 where
  pub swept : (call_asks c).command && some_bits rs ≡ true → ((call_asks c).reads 0x10 && pio_in rs ≡ true) × TellsError (read_log (page_in rs))
  pub paged : pio_in rs ≡ true → asks_page (call_asks c) ≡ true
  pub spoken : SpokenBy (call_says c) (view (call_asks c) rs)

-- of a host frame
pub host_utters : (f : List ℕ) (rs : List FrameValue) → FrameSays (read_frame f) rs → Utters (host_frame f) rs
host_utters f rs y = record {
  swept = λ x. let a = and_right (frame_asks (read_frame f)).command (some_bits rs) x in (y.swept a, y.tells a);
  paged = y.paged;
  spoken = host_finishes (read_frame f) rs y;
}

-- of a device event, which is no command and sends no page
pub event_utters : (c : Call) (rs : List FrameValue) → (call_asks c).command ≡ false → pio_in rs ≡ false → SpokenBy (call_says c) (view (call_asks c) rs) → Utters c rs
event_utters c rs k p s = record { swept = λ x. absurd (false≢true (ap (λ (b : Bool). b && some_bits rs) (sym k) ∙ x)); paged = λ x. absurd (false≢true (sym p ∙ x)); spoken = s }
