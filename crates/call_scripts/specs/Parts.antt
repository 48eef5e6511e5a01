-- A text in parts: what stands before a byte, what behind it, and its lines.
use Rattle.std.specs.Prelude.{ℕ, eqb, List, [], ◌∷◌}
use Rattle.std.specs.List.{onto_first}
use Rattle.bits.specs.Pick.{pick}

-- what stands before the first such byte: all, where there is none
unfoldable pub before : ℕ → List ℕ → List ℕ
before b [] = []
before b (c ∷ cs) = pick (eqb c b) [] (c ∷ before b cs)

-- what stands behind it: nothing, where there is none
unfoldable pub behind : ℕ → List ℕ → List ℕ
behind b [] = []
behind b (c ∷ cs) = pick (eqb c b) cs (behind b cs)

-- the lines of a text, of which the last need not end in LF [script-check]
unfoldable pub lines_of : List ℕ → List (List ℕ)
lines_of [] = []
lines_of (c ∷ cs) = pick (eqb c 10) ([] ∷ lines_of cs) (onto_first c (lines_of cs))
