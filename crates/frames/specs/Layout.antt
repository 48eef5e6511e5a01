-- A layout, the pieces of some bytes one behind the other: what is written, what is read, and which bits are named.
use Rattle.std.specs.Prelude.{Bool, true, false, ◌&&◌, List, [], ◌∷◌, ◌++◌, ℕ, ◌+◌, ◌*◌, ◌^◌, length, get_or, replicate, eqb, ltb}
use Rattle.std.specs.Int.Bits.{bit_and}
use Rattle.bits.specs.Pick.{pick}
use Rattle.bits.specs.Little.{le_at, le_bytes}

-- a byte; a byte of which the bits of a mask are named; a number of n bytes, the lowest first; n bytes without a name [numbers]
pub data Piece : Type 0 where
  byte : Piece
  bits : ℕ → Piece
  number : ℕ → Piece
  unnamed : ℕ → Piece

-- which bits are named, byte by byte
abbrev pub mask : Piece → List ℕ
mask byte = 0xFF ∷ []
mask (bits m) = m ∷ []
mask (number n) = replicate n 0xFF
mask (unnamed n) = replicate n 0

-- the value that stands in l from a place on; what has no name is not looked at [dropped]
abbrev pub got : Piece → List ℕ → ℕ → ℕ
got byte l at = get_or l at 0
got (bits m) l at = bit_and (get_or l at 0) m
got (number n) l at = le_at l at n
got (unnamed n) l at = 0

-- the bytes of a value; what has no name is 0 [dropped]
abbrev pub put : Piece → ℕ → List ℕ
put byte v = v ∷ []
put (bits m) v = v ∷ []
put (number n) v = le_bytes n v
put (unnamed n) v = replicate n 0

-- a value has no bit without a place [unfit-value]
abbrev pub holds : Piece → ℕ → Bool
holds byte v = ltb v 256
holds (bits m) v = eqb (bit_and v m) v
holds (number n) v = ltb v (2 ^ (8 * n))
holds (unnamed n) v = eqb v 0

-- the named bits of all pieces
abbrev pub masks : List Piece → List ℕ
masks [] = []
masks (p ∷ ps) = mask p ++ masks ps

-- the piece that begins with byte `at`, where the first begins with byte `from`
abbrev pub piece_at : List Piece → ℕ → ℕ → Piece
piece_at [] from at = unnamed 0
piece_at (p ∷ ps) from at = pick (eqb from at) p (piece_at ps (from + length (mask p)) at)

-- the bytes of values, one for each piece
abbrev pub bytes_of : List Piece → List ℕ → List ℕ
bytes_of (p ∷ ps) (v ∷ vs) = put p v ++ bytes_of ps vs
bytes_of _ _ = []

-- there is one for each piece, and each has its place
abbrev pub all_hold : List Piece → List ℕ → Bool
all_hold (p ∷ ps) (v ∷ vs) = holds p v && all_hold ps vs
all_hold [] [] = true
all_hold _ _ = false
