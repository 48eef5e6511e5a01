-- What comes of a state that contradicts itself, and of any other, whoever hands it in.
use Rattle.std.specs.Prelude.{◌≡◌, ℕ, Option, Some, None, Result, MatchResult}
use Rattle.refusals.specs.First.{Iff}
use Rattle.refusals.specs.declared.reasons.Refusal.{Refusal}
use Rattle.refusals.specs.declared.reasons.Refusal.TheVariants.{Contradiction}
use Rattle.device_state.specs.declared.shapes.Settings.{Settings}
use Rattle.device.specs.Device.{power_on}
use Rattle.device.specs.Lent.{Lent, Gave, Typed}
use Rattle.device.specs.Sealing.{state_of}
use Rattle.device.specs.declared.state.Device.{Device}
use Rattle.device.specs.declared.sealed.Sealed.{Sealed}
use Rattle.promises.specs.Contradicts.{Contradicts}
use Rattle.promises.specs.Questions.{CounterTold, CountTold}

-- all is as it was: the state, no reply, medium and reply buffer [unchanged]
pub record AsItWas (d : Device) (l : Lent) (g : Gave) : Type 0 where
  pub state : g.outcome.state ≡ d
  pub len : g.outcome.len ≡ 0
  pub medium : g.medium ≡ l.medium
  pub buffer : g.buffer ≡ l.buffer

-- what comes of the wish to keep it in place: 1 if it contradicts itself; else it is kept, as it stands [kept-device] [refused-1]
abbrev pub SealTold : Device → Result Sealed Refusal → Type 0
SealTold d k = MatchResult k (λ s. (state_of s ≡ d) × (Contradicts d → ⊥)) (λ e. (e ≡ Contradiction) × Contradicts d)

-- of the state d, whatever R, C, N and K allow: as results of a call, as answers to the two questions, and as devices to keep [any-state-refused]
pub record TurnedDown (R : Device → Lent → Gave → Type 0) (C : Device → ℕ → Result (Option ℕ) Refusal → Type 0) (N : Device → Result ℕ Refusal → Type 0) (K : Device → Result Sealed Refusal → Type 0) (d : Device) : Type 0 where
  -- a call, by value: 1 exactly if the state contradicts itself, and then all is as it was [refused-1]
  pub refused : (l : Lent) (g : Gave) → R d l g → Iff (g.outcome.refusal ≡ Some Contradiction) (Contradicts d)
  pub kept : (l : Lent) (g : Gave) → R d l g → Contradicts d → AsItWas d l g
  -- the questions for a counter and for the number of commands
  pub counter : (number : ℕ) (c : Result (Option ℕ) Refusal) → C d number c → CounterTold d number c
  pub count : (c : Result ℕ Refusal) → N d c → CountTold d c
  -- to be kept in place
  pub sealed : (k : Result Sealed Refusal) → K d k → SealTold d k
  -- a taken call leaves no state that contradicts itself [never-contradicts]
  pub leaves : (l : Lent) (g : Gave) → Typed l.call → R d l g → g.outcome.refusal ≡ None → Contradicts g.outcome.state → ⊥

-- and power-on, if it is taken, makes none [never-contradicts]
abbrev pub PowerSound : Type 0
PowerSound = (s : Settings) → (power_on s).refusal ≡ None → Contradicts (power_on s).state → ⊥
