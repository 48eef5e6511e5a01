-- What the calls that only ask are answered, by the settings and the history alone.
use Rattle.std.specs.Prelude.{Bool, false, not, ◌&&◌, List, [], ◌∷◌, map, ℕ, min, leb, Option, Some, None, Result}
use Rattle.bits.specs.Pick.{pick}
use Rattle.refusals.specs.First.{rung, first_of, unless}
use Rattle.refusals.specs.declared.reasons.Refusal.{Refusal}
use Rattle.refusals.specs.declared.reasons.Refusal.TheVariants.{Contradiction, NoCounter}
use Rattle.history.specs.Event.{Event}
use Rattle.history.specs.Seen.{seen}
use Rattle.history.specs.Fates.{total}
use Rattle.history.specs.Counted.{told_for}
use Rattle.history.specs.ByHistory.{under_way_after, left_in_transfer}
use Rattle.history.specs.Refused.{out_of_bounds, write_open}

-- 23: number asked not 1 to FFFh [polls-told]
abbrev pub no_counter : ℕ → Bool
no_counter number = not (leb 1 number && leb number 0xFFF)

-- a counter by its number: 1 where the settings of power-on were out of bounds, 23; else the events that the history counts, or absent [polls-told]
abbrev pub counter_polled : ℕ → ℕ → ℕ → List Event → ℕ → Result (Option ℕ) Refusal
counter_polled deep capacity mask h number = unless (first_of (rung Contradiction (out_of_bounds deep capacity mask) ∷ rung NoCounter (no_counter number) ∷ [])) (told_for mask h number)

-- how many commands are outstanding: 1 there; else as many as by the history [polls-told]
abbrev pub count_polled : ℕ → ℕ → ℕ → List Event → Result ℕ Refusal
count_polled deep capacity mask h = unless (first_of (rung Contradiction (out_of_bounds deep capacity mask) ∷ [])) (total (map seen h))

-- the length of the host data that is due: of an open write phase min(8,192, what is left of it); else none [polls-told] [data-due]
abbrev pub due_polled : List Event → Option ℕ
due_polled h = pick (write_open (under_way_after h)) (Some (min 8192 (left_in_transfer false (under_way_after h)))) None
