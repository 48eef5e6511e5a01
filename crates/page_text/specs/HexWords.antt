-- Words of two bytes.
use Rattle.std.specs.Prelude.{ℕ, List, [], ◌∷◌}

-- the two bytes of each word, the other first [text-hex]
unfoldable pub swapped_bytes : List ℕ → List ℕ
swapped_bytes [] = []
swapped_bytes (last ∷ []) = last ∷ []
swapped_bytes (high ∷ low ∷ rest) = low ∷ high ∷ swapped_bytes rest
