-- All that is promised: over every run of the definitions from power-on, and over every sequence of results that the public calls' contracts allow.
use Rattle.std.proofs.Common.{Option, Result, List, ℕ, ◌≡◌, sym, subst}
use Rattle.device_state.specs.declared.shapes.Settings.{Settings}
use Rattle.device.specs.declared.state.Device.{Device}
use Rattle.device.specs.declared.state.Outcome.{Outcome}
use Rattle.history.specs.Event.{Event}
use Rattle.history.specs.Faithful.{Faithful}
use Rattle.history.specs.StateAgrees.{StateAgrees}
use Rattle.history.specs.Refused.{Refusals}
use Rattle.history.specs.Answered.{Answers}
use Rattle.history.specs.Logged.{LogTold}
use Rattle.history.specs.IdentityTold.{IdentityTold}
use Rattle.device.specs.Lent.{Lent}
use Rattle.history.specs.Run.{Done, AllTyped, run_from, history}
use Rattle.refusals.specs.declared.reasons.Refusal.{Refusal}
use Rattle.history.specs.Powered.{Powered}
use Rattle.history.specs.Polled.{counter_polled, count_polled}
use Rattle.history.specs.ReplyRules.{AllReplyRules}
use Rattle.history.specs.Promised.{Promised}
use Rattle.history.specs.Lasting.{HandedOn, Lasting}
use Rattle.device.specs.Device.{power_on}
use Rattle.history.specs.Follows.{final, lents, history_of, Began}
use Rattle.history.proofs.Allowed.{BeganCode, CounterCode, CountCode}
use Rattle.history.proofs.Counters.{counters_tell}
use Rattle.history.proofs.RefusedTests.{powered}
use Rattle.history.proofs.Runs.{run_fates, run_data, run_sactive, run_waiting, run_depth, run_single, run_reply_rules, refused_exactly, log_agrees, identity_told, held}
use Rattle.history.proofs.StateAgrees.{told_outstanding, told_waits, told_counters, told_asked, told_depth, told_count, told_due, told_consistent}
use Rattle.history.proofs.Lasting.{lasting}
use Rattle.history.proofs.Tallied.{tally_is_links}
use Rattle.history.proofs.Contracts.{for_all, began_code, counter_code, count_code}

-- any settings, any calls with anything lent to them, refused ones included
pub faithful : (s : Settings) (as' : List Lent) → AllTyped as' → Faithful s.depth s.mask (history s as')
faithful s as' t = record {
  fates = run_fates s as' t;
  ranges = (run_data s as' t).0;
  contents = (run_data s as' t).1;
  sactive = run_sactive s as' t;
  waiting = run_waiting s as' t;
  depth = run_depth s as' t;
  single = run_single s as' t;
  counters = counters_tell s as' t;
}

-- the state at the end is what the history tells
pub state_agrees : (s : Settings) (as' : List Lent) → AllTyped as' → StateAgrees s (run_from s as').state (history s as')
state_agrees s as' t = record {
  outstanding = told_outstanding s as' t;
  waits = told_waits s as' t;
  counters = told_counters s as' t;
  asked = told_asked s as' t;
  depth = told_depth s as' t;
  count = told_count s as' t;
  due = told_due s as' t;
  consistent = told_consistent s as' t;
}

-- all that is promised, over every run
pub promised : (s : Settings) (as' : List Lent) → AllTyped as' → Promised s (power_on s) (run_from s as').state (history s as')
promised s as' t = record {
  power = powered s;
  refusals = refused_exactly s as' t;
  answers = (held s as' t).answers;
  replies = run_reply_rules s as' t;
  errors = log_agrees s as' t;
  identity = identity_told s as' t;
  faithful = faithful s as' t;
  lasting = λ m. lasting m (history s as') (run_data s as' t).1 (run_data s as' t).0;
  state = state_agrees s as' t;
  tally = tally_is_links (run_from s as').state;
}

-- of every sequence of results that are as the one contract promises them, each call given the state that the last one returned
pub promised_given : (s : Settings) (r : Outcome) (xs : List Done) → Began s r xs → AllTyped (lents xs) → Promised s r (final r.state xs) (history_of xs)
promised_given s r xs b t =
    subst (λ (o : Outcome). Promised s o (final r.state xs) (history_of xs)) (sym b.power) (for_all s r xs b (λ (d : Device) (h : List Event). Promised s (power_on s) d h) (promised s (lents xs) t))

-- and of the code: all that is promised, and so every answer that the contracts of `Device::counter` and `Device::outstanding_count` allow of the state
pub record PromisedCode (s : Settings) (r : Outcome) (d : Device) (h : List Event) : Type 0 where
  pub all : Promised s r d h
  pub asked : (number : ℕ) (c : Result (Option ℕ) Refusal) → CounterCode d number c → c ≡ counter_polled s.depth s.capacity s.mask h number
  pub count : (c : Result ℕ Refusal) → CountCode d c → c ≡ count_polled s.depth s.capacity s.mask h

-- of every sequence of results that the contracts of power-on and of the calls allow
pub promised_code : (s : Settings) (r : Outcome) (xs : List Done) → BeganCode s r xs → AllTyped (lents xs) → PromisedCode s r (final r.state xs) (history_of xs)
promised_code s r xs b t =
    let a = promised_given s r xs (began_code s r xs b) t in
    record { all = a; asked = λ number c p. a.state.asked number c (counter_code _ number c p); count = λ c p. a.state.count c (count_code _ c p) }

-- ---- each part of it, of the code

module _ (s : Settings) (r : Outcome) (xs : List Done) (b : BeganCode s r xs) where
  -- power-on is refused with 1 exactly where the settings are out of bounds, and replies nothing
  pub powered_code : Powered s.depth s.capacity s.mask r.refusal r.len
  powered_code = subst (λ (o : Outcome). Powered s.depth s.capacity s.mask o.refusal o.len) (sym b.power) (powered s)

  module _ (t : AllTyped (lents xs)) where
    -- a history of the code is faithful
    pub faithful_code : Faithful s.depth s.mask (history_of xs)
    faithful_code = (promised_code s r xs b t).all.faithful

    -- every event is turned down for just what the table of refusals says, by the history before it
    pub refused_code : Refusals s.depth s.capacity s.mask (history_of xs)
    refused_code = (promised_code s r xs b t).all.refusals

    -- every taken call is answered, byte for byte, as the history before it says
    pub answers_code : Answers s.depth s.capacity s.mask (history_of xs)
    answers_code = (promised_code s r xs b t).all.answers

    -- every page 10h ever delivered tells the last error since the last reset, as the history before it has it
    pub log_code : LogTold (history_of xs)
    log_code = (promised_code s r xs b t).all.errors

    -- every page of IDENTIFY DEVICE tells depth and capacity
    pub identity_code : IdentityTold s.depth s.capacity (history_of xs)
    identity_code = (promised_code s r xs b t).all.identity

    -- what the host wrote last stands in the medium, where each call is lent it as the last one left it
    pub media_code : (m : List ℕ) → HandedOn m (history_of xs) → Lasting m (history_of xs)
    media_code = (promised_code s r xs b t).all.lasting

    -- and their last state is what their history tells
    pub state_agrees_code : StateAgrees s (final r.state xs) (history_of xs)
    state_agrees_code = (promised_code s r xs b t).all.state

    -- each reply says what it may
    pub reply_rules_code : AllReplyRules (history_of xs)
    reply_rules_code = (promised_code s r xs b t).all.replies
