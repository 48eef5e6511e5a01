-- What of a call may be handed out without its contents.
use Rattle.std.specs.Prelude.{Bool, true, false, List, map, ℕ, take, Result}
use Rattle.bits.specs.Pick.{pick}
use Rattle.frames.specs.Cut.{cut}
use Rattle.frames.specs.Read.{read_frame}
use Rattle.frames.specs.declared.shapes.Frame.{Frame}
use Rattle.refusals.specs.declared.reasons.Refusal.{Refusal}
use Rattle.rules.specs.Call.{Call, happens}
use Rattle.rules.specs.declared.event.DeviceEvent.TheVariants.{SendData}
use Rattle.device.specs.Lent.{Lent, Gave}
use Rattle.device.specs.declared.state.Outcome.{Outcome}
use Rattle.contents.specs.Veil.{blanked}

-- a call is a send
unfoldable pub is_send : Call → Bool
is_send (happens SendData) = true
is_send _ = false

-- the reply bytes of a call but for a send's payload: what may differ is named by the call, and never by what the bytes look like, so that a log page, a data frame too, is no content [contents-unseen]
abbrev pub shown : Call → List ℕ → List ℕ
shown c bytes = pick (is_send c) (blanked bytes) bytes

-- what is told of a call: the state that it left, its refusal and the length of its replies; each reply as its reader answers it, which is its kind, its length and every field; and the reply bytes but for a send's payload [contents-unseen]
pub record Told : Type 0 where
  pub outcome : Outcome
  pub frames : List (Result Frame Refusal)
  pub bytes : List ℕ

-- the bytes of its replies, which stand in front of the reply buffer
abbrev pub reply_of : Gave → List ℕ
reply_of g = take g.outcome.len g.buffer

-- what is told of a call and of what came back
abbrev pub told : Lent → Gave → Told
told l g = record { outcome = g.outcome; frames = map read_frame (cut (reply_of g)); bytes = shown l.call (reply_of g) }
