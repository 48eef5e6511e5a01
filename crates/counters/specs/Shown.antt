-- What page 11h shows of a counter.
use Rattle.std.specs.Prelude.{ℕ, List, get_or, Option, Some, None}
use Rattle.bits.specs.Pick.{pick}
use Rattle.counters.specs.Rows.{kept, row_of}

-- what the page shows of a row: its value if it is kept; and of no row, nothing
unfoldable pub on_row : ℕ → List ℕ → Option ℕ → Option ℕ
on_row mask values (Some row) = pick (kept mask row) (Some (get_or values row 0)) None
on_row mask values None = None

-- what the page shows of a counter's number: a value, or that it is absent [absent]
unfoldable pub shown_for : ℕ → List ℕ → ℕ → Option ℕ
shown_for mask values number = on_row mask values (row_of number)
