-- That contents do not show in any sequence of calls.
use Rattle.std.specs.Prelude.{◌≡◌, List, map, ℕ, Option, Result}
use Rattle.refusals.specs.declared.reasons.Refusal.{Refusal}
use Rattle.device_state.specs.declared.shapes.Settings.{Settings}
use Rattle.device.specs.Counter.{CounterGiven, CountGiven}
use Rattle.device.specs.DataDue.{data_due}
use Rattle.device.specs.declared.state.Outcome.{Outcome}
use Rattle.history.specs.Replied.{page}
use Rattle.history.specs.Run.{Done, event}
use Rattle.history.specs.Follows.{final, lents, Began}
use Rattle.contents.specs.Veil.{veil}
use Rattle.contents.specs.Told.{Told, told}

-- what is told of a call as it went
abbrev pub told_of : Done → Told
told_of x = told x.lent x.gave

-- the log page that it delivered; of any other call none
abbrev pub page_of : Done → List ℕ
page_of x = page (event x)

-- of two power-ons, each with the calls behind it, the same is told: of power-on, of call after call, by every log page, and by the state at the end, with what it answers when it is asked for a counter, the number of commands, or the host data due [contents-unseen]
pub record SameTold (r q : Outcome) (xs ys : List Done) : Type 0 where
  pub power : r ≡ q
  pub calls : map told_of xs ≡ map told_of ys
  pub pages : map page_of xs ≡ map page_of ys
  pub state : final r.state xs ≡ final q.state ys
  pub counter : (number : ℕ) (c e : Result (Option ℕ) Refusal) → CounterGiven (final r.state xs) number c → CounterGiven (final q.state ys) number e → c ≡ e
  pub count : (c e : Result ℕ Refusal) → CountGiven (final r.state xs) c → CountGiven (final q.state ys) e → c ≡ e
  pub due : data_due (final r.state xs) ≡ data_due (final q.state ys)

-- whatever the settings and the calls: two sequences from power-on that differ in contents alone, call by call [contents-unseen]
abbrev pub SequencesAlike : Type 0
SequencesAlike = (s : Settings) (r q : Outcome) (xs ys : List Done) → Began s r xs → Began s q ys → map veil (lents xs) ≡ map veil (lents ys) → SameTold r q xs ys
