-- Laws of the writers.
use Rattle.std.proofs.Common.{◌≡◌, List, ℕ, ◌+◌, length, arith}
use Rattle.frames.specs.Write.{payload, encode}

-- a payload behind its four bytes
pub length_payload : (p : List ℕ) → length (encode (payload p)) ≡ 4 + length p
unfolding encode
length_payload p = omega arith
