-- From contracts to runs: what the public calls' contracts allow, call by call, is the run of the definitions.
use Rattle.std.proofs.Common.{Option, Result, ◌≡◌, refl, sym, ap, subst, ◌∙◌, List, [], ◌∷◌, map, ℕ}
use Rattle.device_state.specs.declared.shapes.Settings.{Settings}
use Rattle.rules.specs.Call.{happens}
use Rattle.rules.specs.declared.event.DeviceEvent.TheVariants.{OpenPhase, FinishTags, MediaError, LinkEvent, LinkTally, Comreset}
use Rattle.device.specs.Step.{Given}
use Rattle.device.proofs.Lending.{unlent, unlent_both}
use Rattle.device.specs.declared.state.Device.{Device}
use Rattle.device.specs.declared.state.Outcome.{Outcome}
use Rattle.history.specs.Event.{Event}
use Rattle.device.specs.Lent.{Lent, Gave}
use Rattle.history.specs.Run.{result, Done, done, event, Run, run, run_from, history}
use Rattle.device.specs.Counter.{CounterGiven, CountGiven}
use Rattle.refusals.specs.declared.reasons.Refusal.{Refusal}
use Rattle.history.specs.Follows.{FollowsBy, newest_first, final, lents, history_of, Began}
use Rattle.history.proofs.Allowed.{Allowed, hosted, opened, sent, finished, failed, linked, tallied, reset, BeganCode, CounterCode, counted, CountCode, summed}

same_gave : {d d' : Device} {n n' : Option Refusal} {l l' : ℕ} {m m' b b' : List ℕ} → d ≡ d' → n ≡ n' → l ≡ l' → m ≡ m' → b ≡ b'
    → ◌≡◌ {A = Gave} (record { outcome = record { state = d; refusal = n; len = l }; medium = m; buffer = b }) (record { outcome = record { state = d'; refusal = n'; len = l' }; medium = m'; buffer = b' })
same_gave p q r s t = cc

-- what the one contract gives is what the definitions give
given_only : (d : Device) (l : Lent) (g : Gave) → Given d l g → g ≡ result d l
given_only d l g a = same_gave a.state a.refusal a.len a.medium a.reply

-- each call's own contract is the one contract; what it is not lent stays as it was
pub allowed_given : {d : Device} {l : Lent} {g : Gave} → Allowed d l g → Given d l g
allowed_given {d} (hosted κs f m b r m' b' p) = p
allowed_given {d} (opened κs t b r m b' p) = unlent d (happens (OpenPhase t)) m b.now b' r refl p
allowed_given {d} (sent κs m b r b' p) = p
allowed_given {d} (finished κs s b r m b' p) = unlent d (happens (FinishTags s)) m b.now b' r refl p
allowed_given {d} (failed κs t e s b r m b' p) = unlent d (happens (MediaError t e s)) m b.now b' r refl p
allowed_given {d} (linked row r m b p) = unlent_both d (happens (LinkEvent row)) m b r refl refl p
allowed_given {d} (tallied ns r m b p) = unlent_both d (happens (LinkTally ns)) m b r refl refl p
allowed_given {d} (reset κs b r m b' p) = unlent d (happens Comreset) m b.now b' r refl p

-- a sequence that the contracts allow is one of results as the one contract promises them
pub allowed_follows : (xs : List Done) (d : Device) → FollowsBy Allowed d xs → FollowsBy Given d xs
unfolding FollowsBy
allowed_follows [] d f = tt
allowed_follows (x ∷ xs) d f = (allowed_given f.0, allowed_follows xs x.gave.outcome.state f.1)

-- and so from power-on
pub began_code : (s : Settings) (r : Outcome) (xs : List Done) → BeganCode s r xs → Began s r xs
began_code s r xs b = record { power = b.power; follows = allowed_follows xs r.state b.follows }

-- the contracts of the two calls that leave the state promise their answers
pub counter_code : (d : Device) (number : ℕ) (c : Result (Option ℕ) Refusal) → CounterCode d number c → CounterGiven d number c
counter_code d number c (counted κs b n r p) = p

pub count_code : (d : Device) (c : Result ℕ Refusal) → CountCode d c → CountGiven d c
count_code d c (summed κs b r p) = p

-- a contract allows just what the definitions give
pub only : {d : Device} {l : Lent} {g : Gave} → Allowed d l g → g ≡ result d l
only {d} {l} {g} a = given_only d l g (allowed_given a)

-- a sequence of such results is the run of the definitions over what was lent
pub follows_run : (xs : List Done) (d : Device) (h : List Done) → FollowsBy Given d xs → run d h (lents xs) ≡ record { state = final d xs; calls = newest_first h xs }
unfolding FollowsBy run final newest_first
follows_run [] d h f = refl
follows_run (x ∷ xs) d h f =
    let e : x.gave ≡ result d x.lent = given_only d x.lent x.gave f.0 in
    ap (λ (g : Gave). run g.outcome.state (done x.lent g ∷ h) (lents xs)) (sym e) ∙ follows_run xs x.gave.outcome.state (x ∷ h) f.1

module _ (s : Settings) (r : Outcome) (xs : List Done) (b : Began s r xs) where
  -- it is the run from power-on
  pub began_run : run_from s (lents xs) ≡ record { state = final r.state xs; calls = newest_first [] xs }
  began_run = ap (λ (o : Outcome). run o.state [] (lents xs)) (sym b.power) ∙ follows_run xs r.state [] b.follows

  -- so what holds of every run's state and history holds of it
  pub for_all : (P : Device → List Event → Type 0) → P (run_from s (lents xs)).state (history s (lents xs)) → P (final r.state xs) (history_of xs)
  for_all P p = subst (λ (y : Run). P y.state (map event y.calls)) began_run p
