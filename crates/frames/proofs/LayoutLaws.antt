-- There and back, for every layout.
use Rattle.std.proofs.Common.{◌≡◌, refl, sym, ap, ◌∙◌, true, List, [], ◌∷◌, ◌++◌, ℕ, zero, suc, ◌+◌, ◌*◌, ◌^◌, ◌<◌, ◌≤◌, arith, length, get_or, take, drop, replicate, append_assoc, append-nil, drop_of_length-le, length-append, length-drop, take_at, drop_at, mod-eq_of_lt, eqb, eqb-true, ltb-true, lt-ltb, bit_and}
use native.Mathlib.Nat.{mod-one}
use lib.Bits.{and_mask}
use Rattle.std.specs.Int.Bits.{and_self}
use Rattle.std.proofs.lemmas.Nat.{and_assoc}
use Rattle.std.proofs.lemmas.List.{length-replicate}
use Rattle.bits.specs.Pick.{pick}
use Rattle.bits.specs.Little.{le_at, le_bytes, bytes_from, byte_of, Bytes}
use Rattle.bits.proofs.Littles.{le_at_there, le_le_bytes, le_lt, byte_le}
use Rattle.bits.proofs.Picks.{and_left, and_right}
use Rattle.frames.specs.Layout.{Piece, byte, bits, number, unnamed, mask, got, put, holds, masks, piece_at, bytes_of, all_hold}
use Rattle.frames.specs.RoundTrip.{masked_from}

-- ---- what was written is read

-- of values, one for each piece, that of the piece that begins with a byte
abbrev pub value_at : List Piece → List ℕ → ℕ → ℕ → ℕ
value_at (p ∷ ps) (v ∷ vs) from at = pick (eqb from at) v (value_at ps vs (from + length (mask p)) at)
value_at _ _ from at = 0

long : (k n x : ℕ) → length (bytes_from k n x) ≡ n
long k zero x = refl
long k (suc n) x = ap suc (long (suc k) n x)

length_put : (p : Piece) (v : ℕ) → length (put p v) ≡ length (mask p)
length_put p v = grind (arith, long, length-replicate)

byte_behind : (f : List ℕ) (v : ℕ) (r : List ℕ) → get_or (f ++ (v ∷ r)) (length f) 0 ≡ v
byte_behind [] v r = refl
byte_behind (b ∷ f) v r = byte_behind f v r

got_put : (p : Piece) (v : ℕ) (f r : List ℕ) → holds p v ≡ true → got p (f ++ (put p v ++ r)) (length f) ≡ v
got_put byte v f r h = byte_behind f v r
got_put (bits m) v f r h = rw (byte_behind f v r) (eqb-true (bit_and v m) v h)
got_put (number n) v f r h =
    let t : take n (le_bytes n v ++ r) ≡ le_bytes n v = take_at (le_bytes n v) r n (long 0 n v) in
    le_at_there (f ++ (le_bytes n v ++ r)) (length f) n
    ∙ rw (drop_at f (le_bytes n v ++ r) (length f) refl, t, long 0 n v) (le_le_bytes n (ltb-true v (2 ^ (8 * n)) h))
got_put (unnamed n) v f r h = sym (eqb-true v 0 h)

-- behind any bytes and before any
pub got_written : (ps : List Piece) (vs f r : List ℕ) → all_hold ps vs ≡ true
    → (at : ℕ) → got (piece_at ps (length f) at) (f ++ (bytes_of ps vs ++ r)) at ≡ value_at ps vs (length f) at
got_written [] [] f r h at = refl
got_written [] (v ∷ vs) f r h at = cc
got_written (p ∷ ps) [] f r h at = cc
got_written (p ∷ ps) (v ∷ vs) f r h at =
    let here : f ++ ((put p v ++ bytes_of ps vs) ++ r) ≡ f ++ (put p v ++ (bytes_of ps vs ++ r)) = ap (λ (x : List ℕ). f ++ x) (append_assoc (put p v) (bytes_of ps vs) r) in
    let there = here ∙ sym (append_assoc f (put p v) (bytes_of ps vs ++ r)) in
    let next : length (f ++ put p v) ≡ length f + length (mask p) = rw (length-append f (put p v), length_put p v) in
    let this = got_put p v f (bytes_of ps vs ++ r) (and_left (holds p v) (all_hold ps vs) h) in
    let others = got_written ps vs (f ++ put p v) r (and_right (holds p v) (all_hold ps vs) h) at in
    grind (arith, here, there, next, this, others)

-- ---- what was read is written again, with its dropped bits zeroed

-- what stands in l from a place on, one value for each piece
abbrev pub values_in : List Piece → List ℕ → ℕ → List ℕ
values_in [] l at = []
values_in (p ∷ ps) l at = got p l at ∷ values_in ps l (at + length (mask p))

module _ (l : List ℕ) (bytes : Bytes l) where
  keeps : (at : ℕ) → bit_and (get_or l at 0) 0xFF ≡ get_or l at 0
  keeps at = and_mask (get_or l at 0) 8 ∙ mod-eq_of_lt (bytes at)

  drops : (at : ℕ) → bit_and (get_or l at 0) 0 ≡ 0
  drops at = and_mask (get_or l at 0) 0 ∙ mod-one (get_or l at 0)

  number_again : (x n k at : ℕ) (ms : List ℕ) → ((j : ℕ) → j < n → byte_of x (k + j) ≡ get_or l (at + j) 0)
      → masked_from at (replicate n 0xFF ++ ms) l ≡ bytes_from k n x ++ masked_from (at + n) ms l
  number_again x zero k at ms h = grind arith
  number_again x (suc n) k at ms h =
      grind (arith, keeps at, h 0 (omega arith), number_again x n (suc k) (suc at) ms (λ j q. let kj : suc k + j ≡ k + suc j = omega arith in let aj : suc at + j ≡ at + suc j = omega arith in rw (kj, aj) (h (suc j) (omega arith))))

  number_bytes : (n at : ℕ) (ms : List ℕ) → masked_from at (replicate n 0xFF ++ ms) l ≡ le_bytes n (le_at l at n) ++ masked_from (at + n) ms l
  number_bytes n at ms = number_again (le_at l at n) n 0 at ms (λ j h. let z : 0 + j ≡ j = omega arith in rw z (byte_le l bytes at n j h))

  unnamed_again : (n at : ℕ) (ms : List ℕ) → masked_from at (replicate n 0 ++ ms) l ≡ replicate n 0 ++ masked_from (at + n) ms l
  unnamed_again zero at ms = grind arith
  unnamed_again (suc n) at ms = grind (arith, drops at, unnamed_again n (suc at) ms)

  piece_again : (p : Piece) (at : ℕ) (ms : List ℕ) → masked_from at (mask p ++ ms) l ≡ put p (got p l at) ++ masked_from (at + length (mask p)) ms l
  piece_again p at ms = grind (arith, keeps at, length-replicate, unnamed_again, number_bytes)

  -- the bytes of what was read, with what stands behind
  pub written_again : (ps : List Piece) (at : ℕ) → bytes_of ps (values_in ps l at) ++ drop (at + length (masks ps)) l ≡ masked_from at (masks ps) l
  written_again [] at = let a : at + 0 ≡ at = omega arith in rw a
  written_again (p ∷ ps) at =
      let n : at + length (mask p ++ masks ps) ≡ (at + length (mask p)) + length (masks ps) = omega (arith, length-append (mask p) (masks ps)) in
      rw (n, piece_again p at (masks ps), append_assoc (put p (got p l at)) (bytes_of ps (values_in ps l (at + length (mask p)))) (drop ((at + length (mask p)) + length (masks ps)) l), written_again ps (at + length (mask p)))

  -- bytes that have no other bits are those of what was read
  pub all_again : (ps : List Piece) → length l ≡ length (masks ps) → masked_from 0 (masks ps) l ≡ l → bytes_of ps (values_in ps l 0) ≡ l
  all_again ps n e =
      let d : drop (0 + length (masks ps)) l ≡ [] = drop_of_length-le l {i = 0 + length (masks ps)} (omega (arith, n)) in
      sym (append-nil (bytes_of ps (values_in ps l 0))) ∙ ap (λ (x : List ℕ). bytes_of ps (values_in ps l 0) ++ x) (sym d) ∙ written_again ps 0 ∙ e

  got_holds : (p : Piece) (at : ℕ) → holds p (got p l at) ≡ true
  got_holds p at = grind (arith, lt-ltb, bytes at, le_lt l bytes at, and_assoc, and_self)

  -- what was read has its places
  pub read_holds : (ps : List Piece) (at : ℕ) → all_hold ps (values_in ps l at) ≡ true
  read_holds [] at = refl
  read_holds (p ∷ ps) at = rw (got_holds p at) (read_holds ps (at + length (mask p)))

-- and it is as long as what was read
pub masked_length : (ms l : List ℕ) (at : ℕ) → at + length ms ≤ length l → at + length (masked_from at ms l) ≡ length l
masked_length [] l at h = omega (arith, length-drop at l)
masked_length (m ∷ ms) l at h = let r = masked_length ms l (suc at) (omega arith) in omega arith
