-- How the code goes about the room that it has, and the hours, and no part of what a table means.
use Rattle.std.specs.Prelude.{ℕ, ◌+◌, ◌-◌, leb, length, if◌then◌else◌, List, [], Option, Some, None}
use Rattle.std.specs.List.{flat_map, range_with_len}
use Rattle.hourly_table.specs.Samples.{Sampled}
use Rattle.hourly_table.specs.Table.{hour_rows}

-- what is left of a room behind a text; nothing where it has no room for it
unfoldable pub left_of : ℕ → List ℕ → Option ℕ
left_of room text = if leb (length text) room then Some (room - length text) else None

-- the rows from one hour to another
unfoldable pub rows_between : List Sampled → List ℕ → ℕ → ℕ → List ℕ
rows_between samples numbers first last = flat_map (hour_rows samples numbers) (range_with_len first (last + 1 - first))

-- the same of ends that there are
abbrev pub rows_in : List Sampled → List ℕ → Option (ℕ × ℕ) → List ℕ
rows_in samples numbers None = []
rows_in samples numbers (Some ends) = rows_between samples numbers ends.0 ends.1
