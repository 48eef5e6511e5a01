-- The tables leave a device no choice: what they say of a history decides all that comes back of its calls.
use Rattle.std.specs.Prelude.{◌≡◌, List, map, ℕ}
use Rattle.device.specs.Lent.{Lent, lent}
use Rattle.history.specs.Event.{Event}
use Rattle.history.specs.Faithful.{Contents}
use Rattle.history.specs.Refused.{Refusals}
use Rattle.history.specs.Answered.{Answers}

-- a call with what was lent to it
abbrev pub lent_in : Event → Lent
lent_in e = lent e.call e.medium e.buffer

-- a history keeps the tables: every event is turned down, is answered and moves data as they say, by the events before it [no-choice-left]
pub record Tabled (deep capacity mask : ℕ) (h : List Event) : Type 0 where
  pub refusals : Refusals deep capacity mask h
  pub answers : Answers deep capacity mask h
  pub contents : Contents h

-- two histories of the same calls, each lent the same, that keep the tables are one: every refusal, every reply byte, every reply buffer and every medium that is left [no-choice-left]
abbrev pub NoChoice : ℕ → ℕ → ℕ → Type 0
NoChoice deep capacity mask = (h h' : List Event) → map lent_in h ≡ map lent_in h' → Tabled deep capacity mask h → Tabled deep capacity mask h' → h ≡ h'
