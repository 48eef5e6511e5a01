-- What a word names.
use Rattle.std.specs.Prelude.{ℕ, List, [], ◌∷◌, Option, Some, None}
use Rattle.std.specs.Str.{bytes_eq}
use Rattle.bits.specs.Pick.{pick}

-- what the first row of this name stands for [script-line]
unfoldable pub named_in : {T : Type 0} → List (List ℕ × T) → List ℕ → Option T
named_in [] word = None
named_in (row ∷ rows) word = pick (bytes_eq word row.0) (Some row.1) (named_in rows word)
