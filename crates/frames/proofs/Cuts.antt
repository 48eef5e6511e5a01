-- Frames that were sent one behind the other come back from the cut.
use Rattle.std.proofs.Common.{◌≡◌, refl, ap, ap₂, ◌∙◌, true, List, [], ◌∷◌, ◌++◌, map, append-nil, ℕ, zero, suc, ◌≤◌, ◌<◌, arith, length, take, drop, length-append, take_at, drop_at}
use Rattle.frames.specs.Size.{fixed_size}
use Rattle.frames.specs.Cut.{first_length, cut_to, cut, joined_bytes}
use Rattle.frames.proofs.CutLaws.{cut_none, cut_one}
use Rattle.frames.specs.Write.{FrameValue, encode}
use Rattle.frames.specs.DataLast.{is_payload, DataLast}

-- a frame in front is cut off whole
pub first_length_of : (f : FrameValue) (rest : List ℕ) → (is_payload f ≡ true → rest ≡ []) → first_length (encode f ++ rest) ≡ length (encode f)
unfolding first_length encode fixed_size
first_length_of f rest h = grind (arith, append-nil)

-- no frame is empty
pub encode_some : (f : FrameValue) → 0 < length (encode f)
unfolding encode
encode_some f = grind arith

sent_to : (n : ℕ) (fs : List FrameValue) → DataLast fs → length (joined_bytes (map encode fs)) ≤ n → cut_to n (joined_bytes (map encode fs)) ≡ map encode fs
unfolding joined_bytes DataLast
sent_to n [] k h = cut_none n [] refl
sent_to zero (f ∷ fs) k h = absurd (omega (arith, encode_some f, length-append (encode f) (joined_bytes (map encode fs))))
sent_to (suc n) (f ∷ fs) k h =
    let rest = joined_bytes (map encode fs) in
    let some = encode_some f in
    let sum = length-append (encode f) rest in
    let piece = first_length_of f rest (λ e. ap (λ (x : List FrameValue). joined_bytes (map encode x)) (k.0 e)) in
    cut_one n (encode f ++ rest) (λ z. omega arith)
    ∙ ap₂ (λ (a : List ℕ) (b : List (List ℕ)). a ∷ b)
    (ap (λ (m : ℕ). take m (encode f ++ rest)) piece ∙ take_at (encode f) rest (length (encode f)) refl)
    (ap (λ (m : ℕ). cut_to n (drop m (encode f ++ rest))) piece ∙ ap (cut_to n) (drop_at (encode f) rest (length (encode f)) refl)
    ∙ sent_to n fs k.1 (omega arith))

-- frames that were sent one behind the other, a data frame last, come back as they were
pub cut_sent : (fs : List FrameValue) → DataLast fs → cut (joined_bytes (map encode fs)) ≡ map encode fs
unfolding cut
cut_sent fs k = sent_to (length (joined_bytes (map encode fs))) fs k (omega arith)
