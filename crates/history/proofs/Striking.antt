-- Refused calls struck out of a sequence change no later refusal, reply, medium or state.
use Rattle.std.proofs.Common.{is_none, ◌≡◌, refl, sym, ap, subst, ◌∙◌, true, false, List, [], ◌∷◌, ⊎_elim}
use Rattle.bits.proofs.Picks.{tested}
use Rattle.device_state.specs.declared.shapes.Settings.{Settings}
use Rattle.device.specs.Device.{power_on}
use Rattle.device.specs.Lent.{Lent, Gave}
use Rattle.device.specs.Step.{step}
use Rattle.device.specs.declared.state.Device.{Device}
use Rattle.device.specs.declared.state.Outcome.{Outcome}
use Rattle.device.proofs.Refusals.{refused_keeps}
use Rattle.history.specs.Run.{Done, done, result, Run, run}
use Rattle.history.specs.Struck.{taken_of, lent_taken, StruckRun}
use Rattle.history.specs.Follows.{FollowsBy, final}
use Rattle.history.proofs.Allowed.{Allowed, BeganCode}
use Rattle.history.proofs.Contracts.{only}
use Rattle.history.proofs.Sets.{is_none_false}

abbrev ran : Device → List Done → Run
ran d h = record { state = d; calls = h }

-- a refused call leaves the state
keeps : (d : Device) (a : Lent) → is_none (result d a).outcome.refusal ≡ false → (result d a).outcome.state ≡ d
keeps d a n = (refused_keeps d a (is_none_false (step d a).refusal n)).state

-- a refused call is struck out
taken_no : (x : Done) (xs : List Done) → is_none x.gave.outcome.refusal ≡ false → taken_of (x ∷ xs) ≡ taken_of xs
unfolding taken_of
taken_no x xs n = rw n

-- from any state on, behind any calls
pub struck_run : (as' : List Lent) (d : Device) (h : List Done) → run d (taken_of h) (lent_taken d as') ≡ ran (run d h as').state (taken_of (run d h as').calls)
unfolding run taken_of lent_taken
struck_run [] d h = refl
struck_run (a ∷ as') d h =
    let b = is_none (result d a).outcome.refusal in
    let d' : Device = (result d a).outcome.state in
    let x : Done = done a (result d a) in
    let more = struck_run as' d' (x ∷ h) in
    ⊎_elim
    (λ (y : b ≡ true). rw y (rw y at more))
    (λ (n : b ≡ false). rw n (ap (λ (z : Device). run z (taken_of h) (lent_taken d' as')) (sym (keeps d a n)) ∙ (rw (taken_no x h n) at more)))
    (tested b)

-- from power-on
pub refused_struck : (s : Settings) (as' : List Lent) → StruckRun s as'
unfolding taken_of
refused_struck s as' = struck_run as' (power_on s).state []

-- what the contracts allow of a refused call leaves the state too
keeps_code : (d : Device) (x : Done) → Allowed d x.lent x.gave → is_none x.gave.outcome.refusal ≡ false → x.gave.outcome.state ≡ d
keeps_code d x a n =
    let e : x.gave ≡ result d x.lent = only a in
    ap (λ (g : Gave). g.outcome.state) e ∙ keeps d x.lent (sym (ap (λ (g : Gave). is_none g.outcome.refusal) e) ∙ n)

-- the taken calls of a sequence, as they went, are a sequence that goes on from d and ends where it ended
abbrev Goes : Device → List Done → List Done → Type 0
Goes d xs ys = FollowsBy Allowed d ys × (final d ys ≡ final d xs)

struck_follows : (xs : List Done) (d : Device) → FollowsBy Allowed d xs → Goes d xs (taken_of xs)
unfolding FollowsBy taken_of final
struck_follows [] d f = (tt, refl)
struck_follows (x ∷ xs) d f =
    let b = is_none x.gave.outcome.refusal in
    let d' : Device = x.gave.outcome.state in
    let more = struck_follows xs d' f.1 in
    ⊎_elim
    (λ (y : b ≡ true). rw y ((f.0, more.0), more.1))
    (λ (n : b ≡ false).
    let e : d' ≡ d = keeps_code d x f.0 n in
    rw n (subst (λ (z : Device). FollowsBy Allowed z (taken_of xs)) e more.0, ap (λ (z : Device). final z (taken_of xs)) (sym e) ∙ more.1))
    (tested b)

-- of the code: without its refused calls a sequence of results that the contracts allow is still one, every other result as it was, and ends in the same state
pub struck_code : (s : Settings) (r : Outcome) (xs : List Done) → BeganCode s r xs → BeganCode s r (taken_of xs) × (final r.state (taken_of xs) ≡ final r.state xs)
struck_code s r xs b =
    let k = struck_follows xs r.state b.follows in
    (record { power = b.power; follows = k.0 }, k.1)
