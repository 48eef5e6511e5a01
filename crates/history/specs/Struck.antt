-- Refused calls struck out of a sequence: a refused event counts as not having happened. Each call keeps what was lent to it.
use Rattle.std.specs.Prelude.{◌≡◌, List, [], ◌∷◌, is_none}
use Rattle.bits.specs.Pick.{pick}
use Rattle.device_state.specs.declared.shapes.Settings.{Settings}
use Rattle.device.specs.Device.{power_on}
use Rattle.device.specs.Lent.{Lent}
use Rattle.device.specs.declared.state.Device.{Device}
use Rattle.history.specs.Run.{Done, result, run_from}

-- of calls as they went, those that were taken [no-refusal-matters]
unfoldable pub taken_of : List Done → List Done
taken_of [] = []
taken_of (x ∷ xs) = pick (is_none x.gave.outcome.refusal) (x ∷ taken_of xs) (taken_of xs)

-- of what is lent call by call, from the state d on, what is lent to those that are taken [no-refusal-matters]
unfoldable pub lent_taken : Device → List Lent → List Lent
lent_taken d [] = []
lent_taken d (a ∷ as') = pick (is_none (result d a).outcome.refusal) (a ∷ lent_taken (result d a).outcome.state as') (lent_taken (result d a).outcome.state as')

-- a sequence from power-on without its refused calls goes as before: it ends in the same state, and its calls are those that were taken, as they went
abbrev pub StruckRun : Settings → List Lent → Type 0
StruckRun s as' = run_from s (lent_taken (power_on s).state as') ≡ record { state = (run_from s as').state; calls = taken_of (run_from s as').calls }
