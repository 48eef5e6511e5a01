-- Sectors against a range.
use Rattle.std.specs.Prelude.{Bool, ◌||◌, ℕ, ◌+◌, ltb, leb}

-- queued command, 3: first sector + count above capacity [queued-range]
abbrev pub too_far : ℕ → ℕ → ℕ → Bool
too_far capacity first count = ltb capacity (first + count)

-- 12: a sector outside the command [refused-12]
abbrev pub outside_of : ℕ → ℕ → ℕ → Bool
outside_of first count sector = ltb sector first || leb (first + count) sector
