-- Counters are 32 bits wide and stay at the top once there.
use Rattle.std.specs.Prelude.{List, [], ◌∷◌, ℕ, ◌+◌, min, eqb, set, replicate}
use Rattle.bits.specs.Pick.{pick}

-- 4,294,967,295
abbrev pub top : ℕ
top = 4294967295

-- as many more, held at the top; 0 adds nothing [counter-width]
abbrev pub next_count : ℕ → ℕ → ℕ
next_count value amount = pick (eqb amount 0) value (min (value + amount) top)

-- as many more at each row as its amount says; each stays at the top by itself [link-tally]
unfoldable pub tallied : List ℕ → List ℕ → List ℕ
tallied values [] = values
tallied [] (n ∷ amounts) = []
tallied (v ∷ values) (n ∷ amounts) = next_count v n ∷ tallied values amounts

-- one event at a row, and none at the others; rows are 0 to 15 [link-event]
abbrev pub single : ℕ → List ℕ
single row = set (replicate 16 0) row 1
