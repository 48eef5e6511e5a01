-- What a refusal hands back: the very state that came in, no frames, and every byte as it was.
use Rattle.std.proofs.Common.{Option, None, ◌≡◌, refl, ap, ◌∙◌, List, [], ℕ, length, arith}
use Rattle.bits.specs.Laid.{overlay}
use Rattle.frames.specs.Cut.{joined_bytes}
use Rattle.frames.specs.Write.{FrameValue}
use Rattle.refusals.specs.declared.reasons.Refusal.{Refusal}
use Rattle.device_state.specs.declared.shapes.Settings.{Settings}
use Rattle.replies.specs.Replies.{sent_all}
use Rattle.device.specs.Device.{zero_device, power_refusal, powered, power_on}
use Rattle.device.specs.Lent.{Lent, Gave}
use Rattle.device.specs.Step.{Step, step, Given}
use Rattle.device.specs.declared.state.Device.{Device}
use Rattle.device.proofs.Turns.{by_turn}

-- a step that hands back the state d and the medium m, and sends nothing
pub record Keeps (d : Device) (m : List ℕ) (s : Step) : Type 0 where
  pub state : s.state ≡ d
  pub frames : s.frames ≡ []
  pub medium : s.medium ≡ m

-- every call
pub refused_keeps : (d : Device) (l : Lent) → ((step d l).refusal ≡ None → ⊥) → Keeps d l.medium (step d l)
refused_keeps d l = by_turn d l (λ (s : Step). (s.refusal ≡ None → ⊥) → Keeps d l.medium s) (λ r q h. record { state = refl; frames = refl; medium = refl }) (λ a q h. absurd (h refl))

-- what a caller then sees: the state that came in, length 0, and medium and reply buffer as they were
pub record Unchanged (d : Device) (l : Lent) (g : Gave) : Type 0 where
  pub state : g.outcome.state ≡ d
  pub len : g.outcome.len ≡ 0
  pub reply : g.buffer ≡ l.buffer
  pub medium : g.medium ≡ l.medium

pub refused_unchanged : (d : Device) (l : Lent) (g : Gave) → Given d l g → (g.outcome.refusal ≡ None → ⊥) → Unchanged d l g
unfolding sent_all joined_bytes
refused_unchanged d l g h n =
    let k = refused_keeps d l (λ e. n (h.refusal ∙ e)) in
    record {
      state = h.state ∙ k.state;
      len = h.len ∙ ap (λ (fs : List FrameValue). length (sent_all fs)) k.frames;
      reply = h.reply ∙ ap (λ (fs : List FrameValue). overlay (sent_all fs) l.buffer) k.frames;
      medium = h.medium ∙ k.medium;
    }

-- a refused power-on hands back all zeros
powered_zeros : (r : Option Refusal) (s : Settings) → (r ≡ None → ⊥) → powered r s ≡ zero_device
powered_zeros r s n = grind arith

pub refused_zeros : (s : Settings) → ((power_on s).refusal ≡ None → ⊥) → (power_on s).state ≡ zero_device
unfolding power_on
refused_zeros s n = powered_zeros (power_refusal s) s n
