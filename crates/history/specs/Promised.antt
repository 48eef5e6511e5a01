-- All that is promised of a sequence of calls from power-on, in one place.
use Rattle.std.specs.Prelude.{List, ℕ}
use Rattle.device_state.specs.declared.shapes.Settings.{Settings}
use Rattle.device.specs.declared.state.Device.{Device}
use Rattle.device.specs.declared.state.Outcome.{Outcome}
use Rattle.history.specs.Event.{Event}
use Rattle.history.specs.Faithful.{Faithful}
use Rattle.history.specs.Lasting.{HandedOn, Lasting}
use Rattle.history.specs.Powered.{Powered}
use Rattle.history.specs.Refused.{Refusals}
use Rattle.history.specs.Logged.{LogTold}
use Rattle.history.specs.IdentityTold.{IdentityTold}
use Rattle.history.specs.Answered.{Answers}
use Rattle.history.specs.ReplyRules.{AllReplyRules}
use Rattle.history.specs.StateAgrees.{StateAgrees}
use Rattle.history.specs.Tallied.{TallyIsLinks}
use Rattle.device.specs.Step.{Given}
use Rattle.history.specs.Run.{Done, AllTyped}
use Rattle.history.specs.Follows.{final, lents, history_of, Began}

-- power-on by the settings s gave r, the calls since are the history h, and the last of them left the state d [all-promised]
pub record Promised (s : Settings) (r : Outcome) (d : Device) (h : List Event) : Type 0 where
  -- power-on is turned down exactly where its settings are out of bounds, and replies nothing
  pub power : Powered s.depth s.capacity s.mask r.refusal r.len
  -- every call is turned down exactly when the rules say so, with the first reason that holds
  pub refusals : Refusals s.depth s.capacity s.mask h
  -- and every call is answered just the bytes that the rules name
  pub answers : Answers s.depth s.capacity s.mask h
  -- what each reply may say: answers, pages, sweeps and what is named finished
  pub replies : AllReplyRules h
  -- every page 10h tells the error that halted last
  pub errors : LogTold h
  -- every page of IDENTIFY DEVICE tells depth and capacity
  pub identity : IdentityTold s.depth s.capacity h
  -- every page 11h tells what was counted; every command has one fate; its bytes are carried once, and are the medium's; SActive names what is outstanding
  pub faithful : Faithful s.depth s.mask h
  -- where each call is lent the medium as the last one left it, what the host wrote last stands there, and a read sends that
  pub lasting : (m : List ℕ) → HandedOn m h → Lasting m h
  -- what the device keeps, and every answer of the calls that only ask, is what the history tells
  pub state : StateAgrees s d h
  -- and a link tally of that state is as many link events
  pub tally : TallyIsLinks Given d

-- so it is of every sequence of results from power-on that is as the contracts promise, whatever the settings, the calls, and what is lent to them
abbrev pub Always : (Settings → List Event → Type 0) → Type 0
Always P = (s : Settings) (r : Outcome) (xs : List Done) → Began s r xs → AllTyped (lents xs) → P s (history_of xs)

-- and of the state behind them
abbrev pub AtTheEnd : (Settings → Device → List Event → Type 0) → Type 0
AtTheEnd P = (s : Settings) (r : Outcome) (xs : List Done) → Began s r xs → AllTyped (lents xs) → P s (final r.state xs) (history_of xs)
