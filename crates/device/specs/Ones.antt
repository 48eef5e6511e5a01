-- How many commands the table holds.
use Rattle.std.specs.Prelude.{List, [], ◌∷◌, ℕ, ◌+◌, eqb}
use Rattle.bits.specs.Pick.{pick}
use Rattle.device_state.specs.declared.shapes.Entry.{Entry}

-- 1 for an entry whose count is not 0, which is one of a command
abbrev pub open_entry : Entry → ℕ
open_entry e = pick (eqb e.count 0) 0 1

-- the entries of commands [ones]
abbrev pub open_entries : List Entry → ℕ
open_entries [] = 0
open_entries (e ∷ es) = open_entry e + open_entries es
