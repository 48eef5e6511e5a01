-- What a call leaves of medium and reply buffer is as long whatever contents are.
use Rattle.std.proofs.Common.{Result, Ok, Err, ◌≡◌, refl, ◌&&◌, List, ◌++◌, ℕ, ◌≤◌, arith, leb, length, take, drop, length-append, length-take, length-drop, leb-true}
use Rattle.bits.specs.Laid.{overlay, overlay_with_room}
use Rattle.bits.proofs.Picks.{by_test, and_right}
use Rattle.device_state.specs.Stored.{stored_medium}
use Rattle.refusals.specs.declared.reasons.Refusal.{Refusal}
use Rattle.rules.specs.Medium.{Touch, leaves, sends, stores, touch_of, kept_by}
use Rattle.rules.specs.declared.acts.Act.{Act}
use Rattle.device.specs.Lent.{Lent, frame_in}
use Rattle.device.specs.Step.{step_by, act_of, step}
use Rattle.device.specs.declared.state.Device.{Device}

room_long : (s d : List ℕ) → length (overlay_with_room s d) ≡ length d
unfolding overlay_with_room
room_long s d =
    by_test (λ (x : List ℕ). length x ≡ length d) (leb (length s) (length d)) (overlay s d) d
    (λ t. let h : length s ≤ length d = leb-true (length s) (length d) t in omega (arith, length-append s (drop (length s) d), length-drop (length s) d)) (λ _. refl)

stored_long : (at : ℕ) (f m : List ℕ) → length (stored_medium at f m) ≡ length m
unfolding stored_medium
stored_long at f m =
    by_test (λ (x : List ℕ). length x ≡ length m) (leb 4 (length f) && leb at (length m)) (take at m ++ overlay_with_room (drop 4 f) (drop at m)) m
    (λ t.
    let h : at ≤ length m = leb-true at (length m) (and_right (leb 4 (length f)) (leb at (length m)) t) in
    omega (arith, length-append (take at m) (overlay_with_room (drop 4 f) (drop at m)), length-take at m, room_long (drop 4 f) (drop at m), length-drop at m))
    (λ _. refl)

kept_long : (t : Touch) (f m : List ℕ) → length (kept_by t f m) ≡ length m
kept_long leaves f m = refl
kept_long (sends k) f m = refl
kept_long (stores k) f m = stored_long k.at f m

step_long : (d : Device) (l : Lent) (x : Result Act Refusal) → length (step_by d l x).medium ≡ length l.medium
step_long d l (Err r) = refl
step_long d l (Ok a) = kept_long (touch_of a) (frame_in l.call) l.medium

-- the medium that a call leaves is as long as the one lent to it
pub medium_long : (d : Device) (l : Lent) → length (step d l).medium ≡ length l.medium
medium_long d l = step_long d l (act_of d l)

-- as many bytes over a buffer as long
pub over_long : (s t b c : List ℕ) → length s ≡ length t → length b ≡ length c → length (overlay s b) ≡ length (overlay t c)
over_long s t b c e f = omega (arith, length-append s (drop (length s) b), length-append t (drop (length t) c), length-drop (length s) b, length-drop (length t) c)
