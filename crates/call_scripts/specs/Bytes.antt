-- Bytes as words tell them.
use Rattle.std.specs.Prelude.{ℕ, eqb, leb, List, [], ◌∷◌, ◌++◌, length, take, drop, get_or, replicate, Option, Some, None}
use Rattle.std.specs.Result.{result_ok}
use Rattle.bits.specs.Pick.{pick}
use Rattle.hex.specs.Hex.{decode_of}
use Rattle.call_scripts.specs.Steps.{◌>>=◌}
use Rattle.call_scripts.specs.Numbers.{number_within}

-- pairs of hex digits
abbrev pub decoded : List ℕ → Option (List ℕ)
decoded word = result_ok (decode_of word)

-- a pair, so many times
abbrev pub repeated : List ℕ → List ℕ → Option (List ℕ)
repeated pair count = do
  byte ← number_within 255 pair
  n ← number_within 16384 count
  Some (replicate n byte)

-- the bytes of a word; `*` stands behind a pair, and before how often it is there [script-bytes]
abbrev pub word_bytes : List ℕ → Option (List ℕ)
word_bytes word = pick (eqb (get_or word 2 0) 42) (repeated (take 2 word) (drop 3 word)) (decoded word)

-- both, the second behind the first
abbrev pub joined : Option (List ℕ) → Option (List ℕ) → Option (List ℕ)
joined (Some front) (Some back) = Some (front ++ back)
joined (Some front) None = None
joined None back = None

-- the bytes of all words [script-bytes]
unfoldable pub all_bytes : List (List ℕ) → Option (List ℕ)
all_bytes [] = Some []
all_bytes (word ∷ words) = joined (word_bytes word) (all_bytes words)

-- a line tells at most 4000h bytes
abbrev pub few : Option (List ℕ) → Option (List ℕ)
few (Some bytes) = pick (leb (length bytes) 16384) (Some bytes) None
few None = None

-- the bytes that words tell, if they all tell some and these are not too many [script-bytes]
abbrev pub bytes_of : List (List ℕ) → Option (List ℕ)
bytes_of words = few (all_bytes words)
