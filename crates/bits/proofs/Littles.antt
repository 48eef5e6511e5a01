-- Laws of little-endian numbers, over the width.
use Rattle.std.proofs.Common.{◌≡◌, refl, sym, ap, ◌∙◌, List, [], ◌∷◌, ◌++◌, ℕ, zero, suc, ◌+◌, ◌-◌, ◌*◌, ◌/◌, ◌%◌, ◌^◌, ◌≤◌, ◌<◌, min, div-one, mod-eq_of_lt, not-suc-le-zero, le_of_suc-le-suc, arith, lit≤, lit<, pow-add, shr-shr, get_or, length, length-take, take, drop, replicate}
use native.Mathlib.Nat.{mod-one}
use lib.Arith.{digits_lt}
use lib.Pow.{mod-pow-add}
use Rattle.std.specs.Int.{w16, w32, w64, from_le_bytes}
use Rattle.std.proofs.lemmas.List.{drop-replicate, length-replicate}
use Rattle.bits.specs.Laid.{overlay_with_room}
use Rattle.bits.proofs.Fronts.{over_yes}
use Rattle.bits.specs.Little.{le_at, byte_of, bytes_from, le_bytes, Bytes, NumberGiven}

le_at_tail : (b : ℕ) (l : List ℕ) (at n : ℕ) → le_at (b ∷ l) (suc at) n ≡ le_at l at n
le_at_tail b l at zero = refl
le_at_tail b l at (suc n) = ap (λ (x : ℕ). x * 256 + get_or l at 0) (le_at_tail b l (suc at) n)

-- what stands behind the end counts nothing
le_at_none : (at n : ℕ) → le_at [] at n ≡ 0
le_at_none at zero = refl
le_at_none at (suc n) = let e = le_at_none (suc at) n in omega arith

le_at_drop : (l : List ℕ) (at n : ℕ) → le_at l at n ≡ le_at (drop at l) 0 n
le_at_drop l zero n = refl
le_at_drop [] (suc at) n = le_at_none (suc at) n ∙ sym (le_at_none 0 n)
le_at_drop (b ∷ l) (suc at) n = le_at_tail b l at n ∙ le_at_drop l at n

le_at_take : (l : List ℕ) (n : ℕ) → le_at l 0 n ≡ le_at (take n l) 0 (length (take n l))
le_at_take l zero = refl
le_at_take [] (suc n) = le_at_none 0 (suc n)
le_at_take (b ∷ l) (suc n) =
    ap (λ (x : ℕ). x * 256 + b) (le_at_tail b l 0 n ∙ le_at_take l n ∙ sym (le_at_tail b (take n l) 0 (length (take n l))))

-- so that a number is that of the bytes that there are
pub le_at_there : (l : List ℕ) (at n : ℕ) → le_at l at n ≡ le_at (take n (drop at l)) 0 (length (take n (drop at l)))
le_at_there l at n = le_at_drop l at n ∙ le_at_take (drop at l) n

-- ---- what is written is read again, over the width

pub le_bytes_from : (k n x : ℕ) → le_at (bytes_from k n x) 0 n ≡ x / 2 ^ (8 * k) % 2 ^ (8 * n)
le_bytes_from k zero x = sym (mod-one (x / 2 ^ (8 * k)))
le_bytes_from k (suc n) x =
    let k8 : 8 * suc k ≡ 8 * k + 8 = omega arith in
    let n8 : 8 * suc n ≡ 8 * n + 8 = omega arith in
    ap (λ (y : ℕ). y * 256 + byte_of x k)
    (le_at_tail (byte_of x k) (bytes_from (suc k) n x) 0 n ∙ le_bytes_from (suc k) n x
    ∙ ap (λ (y : ℕ). y % 2 ^ (8 * n)) (ap (λ (y : ℕ). x / 2 ^ y) k8 ∙ sym (shr-shr x (8 * k) 8)))
    ∙ sym (mod-pow-add (x / 2 ^ (8 * k)) (8 * n) 8)
    ∙ ap (λ (y : ℕ). x / 2 ^ (8 * k) % 2 ^ y) (sym n8)

-- a number that fits n bytes, from its n bytes
pub le_le_bytes : (n : ℕ) {x : ℕ} → x < 2 ^ (8 * n) → le_at (le_bytes n x) 0 n ≡ x
le_le_bytes n {x} h = le_bytes_from 0 n x ∙ rw div-one (mod-eq_of_lt h)

-- ---- what is read is written again, over the width and the index

-- n bytes read as a number stay below its width's bound
pub le_lt : (l : List ℕ) → Bytes l → (at n : ℕ) → le_at l at n < 2 ^ (8 * n)
le_lt l bytes at zero = lit< tt
le_lt l bytes at (suc n) =
    let p : 2 ^ (8 * suc n) ≡ 2 ^ (8 * n) * 256 = ap (λ (m : ℕ). 2 ^ m) (omega arith) ∙ pow-add 2 (8 * n) 8 in
    rw p (digits_lt (le_lt l bytes (suc at) n) (bytes at))

-- bytes in front of zeros are the same number, and that of a whole array of bytes is the language's
le_at_zeros : (k : ℕ) → le_at (replicate k 0) 0 k ≡ 0
le_at_zeros zero = refl
le_at_zeros (suc k) = rw (le_at_tail 0 (replicate k 0) 0 k, le_at_zeros k)

le_at_front : (s : List ℕ) (k : ℕ) → le_at (s ++ replicate k 0) 0 (length s + k) ≡ le_at s 0 (length s)
le_at_front [] k = let e : 0 + k ≡ k = omega arith in rw e (le_at_zeros k)
le_at_front (b ∷ s) k =
    let e : suc (length s) + k ≡ suc (length s + k) = omega arith in
    rw e
    (ap (λ (x : ℕ). x * 256 + b) (le_at_tail b (s ++ replicate k 0) 0 (length s + k) ∙ le_at_front s k ∙ sym (le_at_tail b s 0 (length s))))

-- what was read of l, as the first n of w bytes
le_at_padded : (l s p : List ℕ) (at n w : ℕ) → n ≤ w → s ≡ take n (drop at l) → p ≡ overlay_with_room s (replicate w 0) → le_at p 0 w ≡ le_at l at n
le_at_padded l s p at n w h e q =
    let short : length s ≤ w = omega (arith, ap length e, length-take n (drop at l)) in
    let all : length s + (w - length s) ≡ w = omega arith in
    ap (λ (x : List ℕ). le_at x 0 w) (q ∙ over_yes s (replicate w 0) (omega (arith, length-replicate {A = ℕ} w 0)) ∙ ap (λ (z : List ℕ). s ++ z) (drop-replicate (length s) w 0))
    ∙ ap (λ (k : ℕ). le_at (s ++ replicate (w - length s) 0) 0 k) (sym all) ∙ le_at_front s (w - length s)
    ∙ ap (λ (x : List ℕ). le_at x 0 (length x)) e ∙ sym (le_at_there l at n)

pub number_2 : (l s p : List ℕ) (at r : ℕ) → r ≡ from_le_bytes w16 p → p ≡ overlay_with_room s (replicate 2 0) → s ≡ take 2 (drop at l) → r ≡ le_at l at 2
number_2 l s p at r h q e = h ∙ omega arith ∙ le_at_padded l s p at 2 2 (lit≤ tt) e q

pub number_4 : (l s p : List ℕ) (at r : ℕ) → r ≡ from_le_bytes w32 p → p ≡ overlay_with_room s (replicate 4 0) → s ≡ take 4 (drop at l) → r ≡ le_at l at 4
number_4 l s p at r h q e = h ∙ omega arith ∙ le_at_padded l s p at 4 4 (lit≤ tt) e q

pub number_8 : (l s p : List ℕ) (at m n r : ℕ) → r ≡ from_le_bytes w64 p → p ≡ overlay_with_room s (replicate 8 0) → s ≡ take m (drop at l) → m ≡ min n 8 → Bytes l → NumberGiven l at (min n 8) r
number_8 l s p at m n r h q e k bytes =
    let value : r ≡ le_at l at m = h ∙ omega arith ∙ le_at_padded l s p at m 8 (omega arith) e q in
    rw (← k) (record { value = value; bound = rw value (le_lt l bytes at m) })

-- byte k of the number of n bytes is the byte that stands there
pub byte_le : (l : List ℕ) → Bytes l → (at n k : ℕ) → k < n → byte_of (le_at l at n) k ≡ get_or l (at + k) 0
byte_le l bytes at zero k h = absurd (not-suc-le-zero h)
byte_le l bytes at (suc n) zero h =
    let b = bytes at in
    let z : at + 0 ≡ at = omega arith in
    rw (z, div-one) (omega arith)
byte_le l bytes at (suc n) (suc k) h =
    let b = bytes at in
    let e : 8 * suc k ≡ 8 + 8 * k = omega arith in
    let a : at + suc k ≡ suc at + k = omega arith in
    let d : (le_at l (suc at) n * 256 + get_or l at 0) / 2 ^ 8 ≡ le_at l (suc at) n = omega arith in
    rw (e, ← shr-shr (le_at l (suc at) n * 256 + get_or l at 0) 8 (8 * k), d, a) (byte_le l bytes (suc at) n k (le_of_suc-le-suc h))
