-- What each question answers, of any state: each answer, and just when it is given.
use Rattle.std.specs.Prelude.{◌≡◌, ℕ, ◌/◌, ◌%◌, ◌^◌, ◌<◌, ◌≤◌, ◌⊎◌, eqb, get_or, count_by, Option, Some, None, Result, Ok, Err, MatchResult}
use Rattle.refusals.specs.declared.reasons.Refusal.{Refusal}
use Rattle.refusals.specs.declared.reasons.Refusal.TheVariants.{Contradiction, NoCounter}
use Rattle.counters.specs.Rows.{id_of}
use Rattle.device.specs.declared.state.Device.{Device}
use Rattle.history.specs.Carried.{span}
use Rattle.promises.specs.Contradicts.{IsOn, Contradicts}

-- the row is one of sixteen, has the number that is asked for, and is kept [rows]
abbrev pub IsKeptRow : Device → ℕ → ℕ → Type 0
IsKeptRow d number row = (row < 16) × (id_of row ≡ number) × IsOn d.settings.mask row

-- what is answered of a counter's number [counter-asked]
pub data CounterTold (d : Device) (number : ℕ) : Result (Option ℕ) Refusal → Type 0 where
  -- 1: the state contradicts itself [refused-1]
  contradicting : Contradicts d → CounterTold d number (Err Contradiction)
  -- 23: else, and the number is not 1 to FFFh [refused-23]
  no_counter : (Contradicts d → ⊥) → (number ≡ 0) ⊎ (4095 < number) → CounterTold d number (Err NoCounter)
  -- a value: what the row of the number holds, which is kept
  value : (Contradicts d → ⊥) → (row : ℕ) → IsKeptRow d number row → CounterTold d number (Ok (Some (get_or d.values row 0)))
  -- absent: the number is 1 to FFFh and no kept row's [absent]
  absent : (Contradicts d → ⊥) → 1 ≤ number → number ≤ 4095 → ((row : ℕ) → IsKeptRow d number row → ⊥) → CounterTold d number (Ok None)

-- how many of the 32 tags have their bit on
abbrev pub tags_on : Device → ℕ
tags_on d = count_by (λ t. eqb (d.status.outstanding / 2 ^ t % 2) 1) (span 0 32)

-- what is answered of the number of commands: 1 if the state contradicts itself; else, as the mask has 32 bits, how many of its bits are on [count-asked] [refused-1]
abbrev pub CountTold : Device → Result ℕ Refusal → Type 0
CountTold d c = MatchResult c (λ n. (Contradicts d → ⊥) × (d.status.outstanding < 2 ^ 32 → n ≡ tags_on d)) (λ e. (e ≡ Contradiction) × Contradicts d)
