-- Bytes that count up.
use Rattle.std.specs.Prelude.{ℕ, zero, suc, ◌+◌, ◌%◌, List, [], ◌∷◌, ◌++◌}

-- so many bytes: the first, and on from it by one a byte, modulo m
unfoldable pub counted : ℕ → ℕ → ℕ → List ℕ
counted m first zero = []
counted m first (suc n) = counted m first n ++ (first + n) % m ∷ []

-- the head of a data frame, and a payload of so many bytes that counts up
abbrev pub data_frame : ℕ → ℕ → List ℕ
data_frame size byte = 0x46 ∷ 0 ∷ 0 ∷ 0 ∷ counted 256 byte size
