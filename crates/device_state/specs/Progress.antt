-- Of the whole of a command's bytes: what is left, and what moves next.
use Rattle.std.specs.Prelude.{Bool, ℕ, ◌+◌, ◌-◌, min, leb, eqb}
use Rattle.device_state.specs.declared.progress.Progress.{Progress}

-- what is left of the whole, once some have moved [refused-6]
abbrev pub left_in : ℕ → ℕ → ℕ
left_in whole moved = whole - moved

-- n bytes of it, or what is left if that is less [send]
abbrev pub part_in : ℕ → ℕ → ℕ → ℕ
part_in whole moved n = min n (left_in whole moved)

-- nothing is left once they have moved [host-data]
abbrev pub last_in : ℕ → ℕ → ℕ → Bool
last_in whole moved n = leb (left_in whole moved) n

-- all moved already [refused-9]
abbrev pub wholly : ℕ → ℕ → Bool
wholly moved whole = eqb moved whole

-- the host data due in a write phase: min(8,192, what is left)
abbrev pub due_in : Progress → ℕ
due_in p = part_in p.whole p.moved 8192

-- what has moved once n bytes more have [host-data]
abbrev pub moved_on : ℕ → ℕ → ℕ
moved_on moved n = moved + n

-- how far a command is once n bytes more have moved, or what is left
abbrev pub after_in : Progress → ℕ → Progress
after_in p n = record p { moved = moved_on p.moved (part_in p.whole p.moved n) }
