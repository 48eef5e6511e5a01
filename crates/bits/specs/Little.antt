-- Little-endian numbers in a list of bytes.
use Rattle.std.specs.Prelude.{◌≡◌, ℕ, zero, suc, ◌+◌, ◌*◌, ◌/◌, ◌%◌, ◌^◌, ◌<◌, List, [], ◌∷◌, get_or}

-- the number of the n bytes of l from `at` on, the lowest first; past the end of l stand zeros [numbers]
abbrev pub le_at : List ℕ → ℕ → ℕ → ℕ
le_at l at zero = 0
le_at l at (suc n) = le_at l (suc at) n * 256 + get_or l at 0

-- byte k of x, the lowest first
abbrev pub byte_of : ℕ → ℕ → ℕ
byte_of x k = x / 2 ^ (8 * k) % 256

-- n bytes of x from byte k on
abbrev pub bytes_from : ℕ → ℕ → ℕ → List ℕ
bytes_from k zero x = []
bytes_from k (suc n) x = byte_of x k ∷ bytes_from (suc k) n x

-- x in n bytes [numbers]
abbrev pub le_bytes : ℕ → ℕ → List ℕ
le_bytes n x = bytes_from 0 n x

-- l is a list of bytes, as what stands in a slice of bytes always is
abbrev pub Bytes : List ℕ → Type 0
Bytes l = (i : ℕ) → get_or l i 0 < 256

-- what the code that reads a number answers: the number, which is below its width's bound
pub record NumberGiven (l : List ℕ) (at n r : ℕ) : Type 0 where
  pub value : r ≡ le_at l at n
  pub bound : r < 2 ^ (8 * n)
