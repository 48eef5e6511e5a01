-- Sequences of results: each call given the state that the last one returned.
use Rattle.std.specs.Prelude.{◌≡◌, List, [], ◌∷◌, map}
use Rattle.device_state.specs.declared.shapes.Settings.{Settings}
use Rattle.device.specs.Device.{power_on}
use Rattle.device.specs.Lent.{Lent, Gave}
use Rattle.device.specs.Step.{Given}
use Rattle.device.specs.declared.state.Device.{Device}
use Rattle.device.specs.declared.state.Outcome.{Outcome}
use Rattle.history.specs.Event.{Event}
use Rattle.history.specs.Run.{Done, event}

-- a sequence of results, the oldest first, each as R allows it of its call, each given the state that the last returned [any-sequence] [exists-always]
unfoldable pub FollowsBy : (Device → Lent → Gave → Type 0) → Device → List Done → Type 0
FollowsBy R d [] = Unit
FollowsBy R d (x ∷ xs) = R d x.lent x.gave × FollowsBy R x.gave.outcome.state xs

-- the same sequence with the newest first
unfoldable pub newest_first : List Done → List Done → List Done
newest_first h [] = h
newest_first h (x ∷ xs) = newest_first (x ∷ h) xs

-- and the state that its last call returned
unfoldable pub final : Device → List Done → Device
final d [] = d
final d (x ∷ xs) = final x.gave.outcome.state xs

-- what was lent, call by call [exists-always]
abbrev pub lents : List Done → List Lent
lents xs = map (λ x. x.lent) xs

-- its history
abbrev pub history_of : List Done → List Event
history_of xs = map event (newest_first [] xs)

-- from power-on: its outcome, and a sequence from the state that it returned, each as the one contract of every call promises it [any-sequence]
pub record Began (s : Settings) (r : Outcome) (xs : List Done) : Type 0 where
  pub power : r ≡ power_on s
  pub follows : FollowsBy Given r.state xs
