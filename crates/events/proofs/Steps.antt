-- What the device gives for an event is what a run keeps and tells of it; an event that carries a frame whole is the call of a host frame.
use Rattle.std.proofs.Common.{◌≡◌, ℕ, Bool, List, length, take, drop, ap, ap₂, ◌∙◌, sym, Option, Some, Result, Ok, Err, arith}
use lib.Seq.{take-append_seam}
use Rattle.std.specs.Result.{result_err, result_unwrap_or}
use Rattle.refusals.specs.declared.reasons.Refusal.{Refusal}
use Rattle.rules.specs.Call.{Call, host_frame}
use Rattle.device.specs.Lent.{Gave, gave, answered, lent}
use Rattle.device.specs.Step.{Step, step, bytes_of, Gives}
use Rattle.device.specs.declared.state.Device.{Device}
use Rattle.device.proofs.Kept.{answered_state}
use Rattle.events.specs.declared.asked.Event.{Event}
use Rattle.events.specs.Calls.{call_of, frame_of, event_step}
use Rattle.events.specs.Lines.{line_of}
use Rattle.events.specs.Running.{Kept, kept, after_step, step_told}

-- the same device, medium and reply buffer are kept alike
pub same_kept : {d d' : Device} {m m' b b' : List ℕ} → d ≡ d' → m ≡ m' → b ≡ b' → kept d m b ≡ kept d' m' b'
same_kept p q r = cc

pub kept_is : (k : Kept) (s : Step) (d : Device) (r : Result ℕ Refusal) (m b : List ℕ) → Gives s k.reply (gave (answered d r) m b) → kept d m b ≡ after_step k s
kept_is k s d r m b p = same_kept (sym (answered_state d r) ∙ p.state) p.medium p.reply

front_is : (s : Step) (b : List ℕ) (g : Gave) → Gives s b g → take g.outcome.len g.buffer ≡ bytes_of s
front_is s b g p = let f = bytes_of s in ap₂ (λ (n : ℕ) (l : List ℕ). take n l) p.len p.reply ∙ take-append_seam f (drop (length f) b)

told_by : (traced : Bool) (n : ℕ) (s : Step) (old : List ℕ) (g : Gave) → Gives s old g → line_of traced n g.outcome.refusal g.outcome.state.status.outstanding (take g.outcome.len g.buffer) ≡ step_told traced n s
told_by traced n s old g p = let f = front_is s old g p in cc (f, p.refusal, p.state)

told_answered : (traced : Bool) (n : ℕ) (s : Step) (old : List ℕ) (d : Device) (r : Result ℕ Refusal) (m b : List ℕ) → Gives s old (gave (answered d r) m b)
    → line_of traced n (result_err r) d.status.outstanding (take (result_unwrap_or r 0) b) ≡ step_told traced n s
told_answered traced n s old d (Ok len) m b p = told_by traced n s old (gave (answered d (Ok len)) m b) p
told_answered traced n s old d (Err r) m b p = told_by traced n s old (gave (answered d (Err r)) m b) p

-- the line of what the device answered: its refusal, and the replies in front of the buffer
pub told_is : (traced : Bool) (n : ℕ) (s : Step) (old : List ℕ) (d : Device) (r : Result ℕ Refusal) (m b : List ℕ) (given : Option Refusal) (len : ℕ) → given ≡ result_err r → len ≡ result_unwrap_or r 0
    → Gives s old (gave (answered d r) m b) → line_of traced n given d.status.outstanding (take len b) ≡ step_told traced n s
told_is traced n s old d r m b given len p q g = rw (p, q) (told_answered traced n s old d r m b g)

-- an event that carries a frame whole is that call
framed_call : (d : Device) (x : Event) (frame : List ℕ) → Some frame ≡ frame_of x → host_frame frame ≡ call_of d x
unfolding frame_of call_of
framed_call d x frame h = grind arith

-- and has its step
pub framed_step : (d : Device) (x : Event) (frame m b : List ℕ) → Some frame ≡ frame_of x → step d (lent (host_frame frame) m b) ≡ event_step d x m b
framed_step d x frame m b h = ap (λ (call : Call). step d (lent call m b)) (framed_call d x frame h)
