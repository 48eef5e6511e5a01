-- Laws of bytes that are laid over the front of others.
use Rattle.std.proofs.Common.{◌≡◌, sym, ap, ap₂, ◌∙◌, List, ◌++◌, append_assoc, append-nil, ℕ, ◌+◌, ◌-◌, ◌≤◌, ◌<◌, le_of_eq, length, take, drop, length-append, length-drop, drop_of_length-le, take_all, take_at, drop_at, drop-drop, leb, le-leb}
use borrow.Rule.Slice.PartMut.{mid_of, put_mid}
use borrow.Author.Tests.{lt-leb}
use Rattle.bits.specs.Laid.{overlay, overlay_with_room}
use Rattle.bits.proofs.Picks.{pick_yes, pick_no}

pub over_no : (s d : List ℕ) → length d < length s → overlay_with_room s d ≡ d
unfolding overlay_with_room
over_no s d h = pick_no (leb (length s) (length d)) (overlay s d) d (lt-leb (length s) (length d) h)

pub over_yes : (s d : List ℕ) → length s ≤ length d → overlay_with_room s d ≡ overlay s d
unfolding overlay_with_room
over_yes s d h = pick_yes (leb (length s) (length d)) (overlay s d) d (le-leb (length s) (length d) h)

-- the part from n on, and another list in its place
pub rest_part : (n : ℕ) (l : List ℕ) → mid_of n (length l - n) l ≡ drop n l
rest_part n l = take_all (length l - n) (drop n l) (le_of_eq (length-drop n l))

pub rest_put : (n : ℕ) (l ys : List ℕ) → put_mid n (length l - n) l ys ≡ take n l ++ ys
rest_put n l ys = ap (λ (z : List ℕ). take n l ++ (ys ++ z)) (drop_of_length-le (drop n l) (le_of_eq (length-drop n l))) ∙ ap (λ (z : List ℕ). take n l ++ z) (append-nil ys)

-- one behind the other: p stands in the first n places of xs, and q is laid over the part that p left
pub laid_next : (n : ℕ) (p q l xs ys : List ℕ) → length p ≡ n → xs ≡ overlay p l → ys ≡ overlay q (mid_of n (length xs - n) xs)
    → put_mid n (length xs - n) xs ys ≡ overlay (p ++ q) l
laid_next n p q l xs ys e x y =
    let x' : xs ≡ p ++ drop n l = x ∙ rw e in
    let d : drop n xs ≡ drop n l = ap (drop n) x' ∙ drop_at p (drop n l) n e in
    let t : take n xs ≡ p = ap (take n) x' ∙ take_at p (drop n l) n e in
    let mid : mid_of n (length xs - n) xs ≡ drop n l = rest_part n xs ∙ d in
    let y' : ys ≡ q ++ drop (n + length q) l = y ∙ ap (λ (z : List ℕ). q ++ z) (ap (drop (length q)) mid ∙ drop-drop (length q) n l) in
    let w : length (p ++ q) ≡ n + length q = length-append p q ∙ ap (λ (m : ℕ). m + length q) e in
    rest_put n xs ys ∙ ap₂ (λ (a b : List ℕ). a ++ b) t y'
    ∙ sym (append_assoc p q (drop (n + length q) l)) ∙ sym (ap (λ (m : ℕ). (p ++ q) ++ drop m l) w)
