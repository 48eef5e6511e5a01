-- All that a call leaves behind, as one function of what came in.
use Rattle.std.specs.Prelude.{◌≡◌, List, [], ℕ, length, Option, Some, None, Result, Ok, Err}
use Rattle.bits.specs.Laid.{overlay}
use Rattle.frames.specs.Write.{FrameValue}
use Rattle.refusals.specs.declared.reasons.Refusal.{Refusal}
use Rattle.rules.specs.Call.{Call}
use Rattle.rules.specs.Act.{act}
use Rattle.rules.specs.Medium.{part_of, medium_after}
use Rattle.rules.specs.declared.acts.Act.{Act}
use Rattle.device_state.specs.declared.shapes.Settings.{Settings}
use Rattle.identity.specs.declared.words.Identity.{Identity}
use Rattle.replies.specs.Replies.{replies_of, sent_all}
use Rattle.replies.specs.StateShown.{StateShown}
use Rattle.device.specs.Lent.{Lent, lent, Gave, gave, frame_in}
use Rattle.device.specs.FactsOf.{facts_of}
use Rattle.device.specs.After.{after_of}
use Rattle.device.specs.declared.state.Device.{Device}
use Rattle.device.specs.declared.state.Outcome.{Outcome}

-- the state, the refusal, the replies as frames, and the medium [by-value]
pub record Step : Type 0 where
  pub state : Device
  pub refusal : Option Refusal
  pub frames : List FrameValue
  pub medium : List ℕ

-- what IDENTIFY DEVICE tells of settings [identify]
abbrev pub identity_told : Settings → Identity
identity_told s = record { depth = s.depth; capacity = s.capacity }

-- what replies show of a device
abbrev pub state_shown : Device → StateShown
state_shown d = record { halted = d.status.halted; identity = identity_told d.settings; mask = d.settings.mask; errors = d.errors; values = d.values }

-- what is left behind, with what was lent: refused, all as it was and no reply; else by the act [unchanged]
abbrev pub step_by : Device → Lent → Result Act Refusal → Step
step_by d l (Err r) = record { state = d; refusal = Some r; frames = []; medium = l.medium }
step_by d l (Ok a) = record {
  state = after_of d a;
  refusal = None;
  frames = replies_of (state_shown d) (part_of a l.medium) a;
  medium = medium_after a (frame_in l.call) l.medium;
}

-- what a call makes the device do, or what it is refused with
unfoldable pub act_of : Device → Lent → Result Act Refusal
act_of d l = act (facts_of d l) l.call

-- what a call leaves behind [one-function]
abbrev pub step : Device → Lent → Step
step d l = step_by d l (act_of d l)

-- the bytes of a step's replies, which follow one another
abbrev pub bytes_of : Step → List ℕ
bytes_of s = sent_all s.frames

-- what came back is what a step s leaves behind, with the reply buffer b: state, refusal and length of the replies, the replies in front of the buffer and the rest as it was, and the medium
pub record Gives (s : Step) (b : List ℕ) (g : Gave) : Type 0 where
  pub state : g.outcome.state ≡ s.state
  pub refusal : g.outcome.refusal ≡ s.refusal
  pub len : g.outcome.len ≡ length (bytes_of s)
  pub reply : g.buffer ≡ overlay (bytes_of s) b
  pub medium : g.medium ≡ s.medium

-- the one contract of the calls [one-function] [unchanged]
abbrev pub Given : Device → Lent → Gave → Type 0
Given d l g = Gives (step d l) l.buffer g

-- of a call that is lent a reply buffer alone
abbrev pub GivenReplying : Device → Call → List ℕ → Outcome → List ℕ → Type 0
GivenReplying d c b r b' = Given d (lent c [] b) (gave r [] b')

-- of a call that is lent nothing
abbrev pub GivenAlone : Device → Call → Outcome → Type 0
GivenAlone d c r = GivenReplying d c [] r []
