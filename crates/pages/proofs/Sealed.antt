-- The sum byte does what it is for.
use Rattle.std.proofs.Common.{◌≡◌, ap, ℕ, ◌<◌, List, length, get_or, set, arith}
use Rattle.std.proofs.lemmas.List.Sums.{sum_by-set}
use Rattle.pages.specs.Sum.{sum_byte, sum256, sealed_page}

-- a page of 512 bytes whose last is still 0 sums to 0 once it is sealed
pub sum_sealed : (p : List ℕ) → length p ≡ 512 → get_or p 511 0 ≡ 0 → sum256 (sealed_page p) ≡ 0
unfolding sealed_page sum256
sum_sealed p l z =
    let e = sum_by-set (λ (x : ℕ). x) p 511 (sum_byte p) 0 (omega arith) in
    omega arith

-- and a page that sums to 0 has that sum byte
pub sealed_again : (p : List ℕ) (v : ℕ) → length p ≡ 512 → get_or p 511 0 ≡ 0 → v < 256 → sum256 (set p 511 v) ≡ 0 → sealed_page p ≡ set p 511 v
unfolding sealed_page sum256
sealed_again p v l z h e =
    let s = sum_by-set (λ (x : ℕ). x) p 511 v 0 (omega arith) in
    ap (set p 511) (omega arith)
