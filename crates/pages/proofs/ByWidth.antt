-- A number is read as it was written: one law over the width.
use Rattle.std.proofs.Common.{◌≡◌, refl, ◌∙◌, List, ℕ, zero, suc, ◌+◌, ◌*◌, ◌^◌, ◌<◌, arith, get_or}
use Rattle.bits.specs.Little.{le_at, le_bytes}
use Rattle.bits.proofs.Littles.{le_le_bytes}

-- the same n bytes are the same number
le_same : (n : ℕ) (l m : List ℕ) (a b : ℕ) → ((j : ℕ) → j < n → get_or l (a + j) 0 ≡ get_or m (b + j) 0) → le_at l a n ≡ le_at m b n
le_same zero l m a b e = refl
le_same (suc n) l m a b e =
    let za : a + 0 ≡ a = omega arith in
    let zb : b + 0 ≡ b = omega arith in
    let first : get_or l a 0 ≡ get_or m b 0 = rw (za, zb) at (e 0 (omega arith)) in
    let rest : le_at l (suc a) n ≡ le_at m (suc b) n =
    le_same n l m (suc a) (suc b)
    (λ j h.
    let ja : suc a + j ≡ a + suc j = omega arith in
    let jb : suc b + j ≡ b + suc j = omega arith in
    rw (ja, jb) (e (suc j) (omega arith))) in
    rw (first, rest)

-- where the n bytes of a number stand, that number is read
pub le_stands : (n v : ℕ) → v < 2 ^ (8 * n) → (page : List ℕ) (at : ℕ) → ((j : ℕ) → j < n → get_or page (at + j) 0 ≡ get_or (le_bytes n v) j 0) → le_at page at n ≡ v
le_stands n v h page at e =
    le_same n page (le_bytes n v) at 0 (λ j k. let z : 0 + j ≡ j = omega arith in rw z (e j k)) ∙ le_le_bytes n h
