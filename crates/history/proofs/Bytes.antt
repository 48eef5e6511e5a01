-- Laws of the byte of a position: of what is written at a place, and of what was sent from it.
use Rattle.std.proofs.Common.{Option, Some, ◌≡◌, refl, sym, ap, ◌∙◌, List, [], ◌∷◌, ◌++◌, ℕ, zero, suc, ◌+◌, ◌-◌, ◌≤◌, ◌<◌, suc-add, zero-add, arith, le-leb, get_or, length, take, drop, slice_get}
use Rattle.std.specs.Option.{option_or}
use Rattle.std.proofs.Math.Nat.{suc-sub-suc}
use Rattle.std.proofs.Math.Dec.{leb-suc-zero, leb-suc-suc}
use Rattle.std.proofs.lemmas.Option.{slice_get-get_or, slice_get_within}
use Rattle.history.specs.Placed.{written, byte_at}
use Rattle.history.proofs.Placed.{SentFrom, EndsIn, left_same}

-- of a beginning
get_take : (n : ℕ) (l : List ℕ) (i : ℕ) → i < n → slice_get (take n l) i ≡ slice_get l i
get_take zero l i k = absurd (omega (arith, k))
get_take (suc n) [] i k = refl
get_take (suc n) (x ∷ l) zero k = refl
get_take (suc n) (x ∷ l) (suc i) k = get_take n l i (omega (arith, k))

-- of what follows
get_drop : (n : ℕ) (l : List ℕ) (i : ℕ) → slice_get (drop n l) i ≡ slice_get l (n + i)
get_drop zero l i = rw (zero-add i) refl
get_drop (suc n) [] i = refl
get_drop (suc n) (x ∷ l) i = rw (suc-add n i) (get_drop n l i)

-- of bytes laid over the front of others
get_front : (l m : List ℕ) (p : ℕ) → length l ≤ length m → slice_get (l ++ drop (length l) m) p ≡ option_or (slice_get l p) (slice_get m p)
get_front [] m p k = refl
get_front (y ∷ l) [] p k = absurd (omega (arith, k))
get_front (y ∷ l) (x ∷ m) zero k = refl
get_front (y ∷ l) (x ∷ m) (suc p) k = get_front l m p (omega (arith, k))

-- of bytes written at a place: these where they stand, elsewhere those of the medium
get_there : (at : ℕ) (l m : List ℕ) (p : ℕ) → at + length l ≤ length m → slice_get (written at l m) p ≡ option_or (byte_at at l p) (slice_get m p)
get_there zero l m p k =
    let s : p - 0 ≡ p = omega arith in
    rw (zero-add (length l), le-leb 0 p (omega arith), s) (get_front l m p (omega (arith, k)))
get_there (suc at) l [] p k = absurd (omega (arith, k))
get_there (suc at) l (x ∷ m) zero k = rw (leb-suc-zero at) refl
get_there (suc at) l (x ∷ m) (suc p) k = rw (suc-add at (length l), leb-suc-suc at p, suc-sub-suc p at) (get_there at l m p (omega (arith, k)))

-- also where nothing is written
pub get_written : (at : ℕ) (l m : List ℕ) (p : ℕ) → EndsIn at m l → slice_get (written at l m) p ≡ option_or (byte_at at l p) (slice_get m p)
get_written at [] m p k = rw (left_same at m (written at [] m) [] refl refl) (grind arith)
get_written at (x ∷ l) m p k = get_there at (x ∷ l) m p (k (omega arith))

-- one or else another or else a third
pub or_else : (a b c : Option ℕ) → option_or a (option_or b c) ≡ option_or (option_or a b) c
or_else a b c = grind arith

-- a byte of what is sent is the medium's
pub sent_byte : (at : ℕ) (m l : List ℕ) (p b : ℕ) → SentFrom at m l → byte_at at l p ≡ Some b → slice_get m p ≡ Some b
sent_byte at m l p b s k =
    let i : ℕ = p - at in
    let there : slice_get l i ≡ Some b = grind arith in
    let place : at + i ≡ p = grind arith in
    ap (slice_get m) (sym place) ∙ sym (get_drop at m i) ∙ sym (get_take (length l) (drop at m) i (slice_get_within l i b there)) ∙ ap (λ (v : List ℕ). slice_get v i) (sym s) ∙ there

-- the byte at a position of those that stand from a place on
pub byte_there : (at i : ℕ) (l : List ℕ) → i < length l → byte_at at l (at + i) ≡ Some (get_or l i 0)
byte_there at i l k =
    let s : at + i - at ≡ i = omega arith in
    rw (le-leb at (at + i) (omega arith), s) (slice_get-get_or l i 0 k)
