-- A payload laid into the medium, for a frame of any length.
use Rattle.std.proofs.Common.{◌≡◌, refl, List, [], ◌++◌, ⊎_elim, ℕ, ◌≤◌, ◌<◌, arith, length, take, drop, drop_of_length-le, le-leb, take-append-drop}
use borrow.Author.Tests.{lt-leb}
use Rattle.std.proofs.lemmas.Bool.{cases_lt}
use Rattle.bits.specs.Laid.{overlay_with_room}
use Rattle.bits.proofs.Fronts.{over_yes}
use Rattle.device_state.specs.Stored.{stored_medium}

-- a frame shorter than its head has no payload, and to lay no bytes changes nothing
pub stored_behind : (at : ℕ) (f m : List ℕ) → at ≤ length m → take at m ++ overlay_with_room (drop 4 f) (drop at m) ≡ stored_medium at f m
unfolding stored_medium
stored_behind at f m h =
    ⊎_elim (λ (s : length f < 4).
    let none : drop 4 f ≡ [] = drop_of_length-le f {i = 4} (omega (arith, s)) in
    rw (lt-leb 4 (length f) s, none, over_yes [] (drop at m) (omega arith)) (take-append-drop at m))
    (λ (s : 4 ≤ length f). rw (le-leb 4 (length f) s, le-leb at (length m) h) refl) (cases_lt (length f) 4)
