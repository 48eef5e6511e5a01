-- Several frames one behind the other, cut by kind and length.
use Rattle.std.specs.Prelude.{List, [], ◌∷◌, ◌++◌, ℕ, zero, suc, length, get_or, take, drop, eqb, min, unwrap_or}
use Rattle.bits.specs.Pick.{pick}
use Rattle.frames.specs.Size.{fixed_size}

-- the length of the first frame: its kind's, and no more than is there; 46h and an unknown kind take what is left [cut]
unfoldable pub first_length : List ℕ → ℕ
first_length l = min (unwrap_or (fixed_size (get_or l 0 0)) (length l)) (length l)

-- the pieces of l, at most n of them; nothing is left of l once n is its length (`cut_all`)
unfoldable pub cut_to : ℕ → List ℕ → List (List ℕ)
cut_to zero l = []
cut_to (suc n) l = pick (eqb (length l) 0) [] (take (first_length l) l ∷ cut_to n (drop (first_length l) l))

-- all the frames of l, each as its bytes [cut] [all-sent]
unfoldable pub cut : List ℕ → List (List ℕ)
cut l = cut_to (length l) l

-- pieces one behind the other
unfoldable pub joined_bytes : List (List ℕ) → List ℕ
joined_bytes [] = []
joined_bytes (p ∷ ps) = p ++ joined_bytes ps
