-- One word of a page after the other, its bytes swapped.
use Rattle.std.proofs.Common.{◌≡◌, ℕ, ◌+◌, ◌*◌, ◌<◌, ◌≤◌, List, ◌++◌, length, get_or, take, drop, sym, arith, append_assoc, append-nil, drop-set-lt, take_all}
use Rattle.std.proofs.lemmas.List.{drop_all}
use Rattle.std.proofs.lemmas.List.Edits.{swap_is}
use Rattle.std.proofs.Math.ListN.{set}
use Rattle.std.specs.List.{swap}
use Rattle.hex.proofs.Pairs.{drop-pair, take-two_writes}
use Rattle.page_text.specs.HexWords.{swapped_bytes}

-- a word more: the page is swapped in front, and still as it was told behind
pub swap_more : (told page : List ℕ) (w : ℕ) → 2 * w + 1 < length page → swapped_bytes told ≡ take (2 * w) page ++ swapped_bytes (drop (2 * w) page)
    → swapped_bytes told ≡ take (2 * (w + 1)) (swap page (2 * w) (2 * w + 1)) ++ swapped_bytes (drop (2 * (w + 1)) (swap page (2 * w) (2 * w + 1)))
unfolding swapped_bytes
swap_more told page w h front =
    let high = get_or page (2 * w) 0 in
    let low = get_or page (2 * w + 1) 0 in
    let two : 2 * (w + 1) ≡ 2 * w + 2 = omega arith in
    let written = sym (swap_is page (2 * w) (2 * w + 1) 0 (omega arith) (omega arith)) in
    let taken = take-two_writes page (2 * w) low high h in
    let second = drop-set-lt (2 * w + 2) (set page (2 * w) low) (2 * w + 1) high (omega arith) in
    let first = drop-set-lt (2 * w + 2) page (2 * w) low (omega arith) in
    let before = rw (drop-pair page w h) at front in
    rw (written, two, taken, second, first, append_assoc) (rw two at before)

-- all words
pub swap_all : (told page : List ℕ) (w : ℕ) → length page ≤ 2 * w → swapped_bytes told ≡ take (2 * w) page ++ swapped_bytes (drop (2 * w) page) → page ≡ swapped_bytes told
unfolding swapped_bytes
swap_all told page w h front = sym (rw (drop_all (2 * w) page h, take_all (2 * w) page h, append-nil) at front)
