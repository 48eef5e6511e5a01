-- What a caller of the device is told: the one record of what is promised (`Promised`), of the history that its call continues.
use Rattle.std.specs.Prelude.{◌≡◌, List, [], ◌∷◌, ◌++◌, ℕ}
use Rattle.device_state.specs.declared.shapes.Settings.{Settings}
use Rattle.device.specs.declared.state.Device.{Device}
use Rattle.device.specs.declared.state.Outcome.{Outcome}
use Rattle.rules.specs.Call.{Call}
use Rattle.device.specs.Lent.{Lent, lent, Gave, gave}
use Rattle.history.specs.Run.{Done, done, AllTyped}
use Rattle.history.specs.Follows.{final, lents, history_of, Began}
use Rattle.history.specs.Promised.{Promised}

-- d is the state that the last call of xs returned: calls from power-on with the settings s, which gave r [callers-told]
pub record Reached (s : Settings) (r : Outcome) (xs : List Done) (d : Device) : Type 0 where
  pub began : Began s r xs
  pub typed : AllTyped (lents xs)
  pub last : final r.state xs ≡ d

-- then that record holds of their history, and of d behind it [callers-told] [program-told]
pub record Holds (s : Settings) (r : Outcome) (xs : List Done) (d : Device) : Type 0 where
  pub reached : Reached s r xs d
  pub promised : Promised s r d (history_of xs)

-- whatever the calls were that led to the state d: with this one more, all that holds [callers-told]
abbrev pub Continues : Device → Lent → Gave → Type 0
Continues d a g = (s : Settings) (r : Outcome) (xs : List Done) → Reached s r xs d → Holds s r (xs ++ done a g ∷ []) g.outcome.state

-- a call that is lent a reply buffer alone, whatever the medium is
abbrev pub ContinuesReplying : Device → Call → List ℕ → Outcome → List ℕ → Type 0
ContinuesReplying d c b r b' = (m : List ℕ) → Continues d (lent c m b) (gave r m b')

-- a call that is lent nothing, whatever medium and reply buffer are
abbrev pub ContinuesAlone : Device → Call → Outcome → Type 0
ContinuesAlone d c r = (m b : List ℕ) → Continues d (lent c m b) (gave r m b)

-- power-on, and no call yet
abbrev pub Begins : Settings → Outcome → Type 0
Begins s r = Holds s r [] r.state

-- power-on, and one call that is lent nothing
abbrev pub FirstCall : Settings → Call → Outcome → Type 0
FirstCall s c r = (o : Outcome) × Holds s o (done (lent c [] []) (gave r [] []) ∷ []) r.state
