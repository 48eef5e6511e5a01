-- What is promised, over every run from power-on.
use Rattle.std.proofs.Common.{None, ◌≡◌, refl, ap, subst, ◌∙◌, List, [], ◌∷◌, map, ◌≤◌, le_trans, le_of_eq, arith, ltb}
use lib.Count.{ones}
use Rattle.device_state.specs.declared.shapes.Settings.{Settings}
use Rattle.device.specs.Device.{power_on, fresh_device}
use Rattle.device.specs.declared.state.Device.{Device}
use Rattle.device.proofs.Opens.{ones_most}
use Rattle.history.specs.Event.{Event}
use Rattle.history.specs.Seen.{seen}
use Rattle.history.specs.Fates.{total}
use Rattle.history.specs.Faithful.{Fates, Ranges, Moves, Contents, Sactive, Waiting, Depth, OnePerTag, Counters}
use Rattle.history.specs.ReplyRules.{AllReplyRules}
use Rattle.history.specs.Refused.{Refusals}
use Rattle.history.specs.Logged.{log_by, LogTold}
use Rattle.history.specs.IdentityTold.{IdentityTold}
use Rattle.history.specs.Answered.{Answers}
use Rattle.replies.specs.Replies.{log_of}
use Rattle.device.specs.Lent.{Lent, Typed}
use Rattle.history.specs.Run.{Done, done, event, result, AllTyped, run, run_from, history}
use Rattle.history.proofs.Class.{Class}
use Rattle.history.proofs.Steps.{comes, marked_step}
use Rattle.history.proofs.Fated.{AllLone, lone, fates}
use Rattle.history.proofs.Core.{Inv, inv_start, keeps, inv_sactive, inv_waiting, inv_total}
use Rattle.history.proofs.Table.{Tracked, tracked_start, tracked_step, ranges}
use Rattle.history.proofs.Contents.{moves}
use Rattle.history.proofs.ReplyRules.{reply_rules}
use Rattle.history.proofs.Marked.{Marked, marked_start}
use Rattle.device.proofs.Widths.{Wide}
use Rattle.device.proofs.Widening.{wide_step, wide_start}
use Rattle.history.proofs.Holding.{holding_step, holding_power}
use Rattle.history.proofs.Knows.{Known, knows}
use Rattle.history.proofs.Refusing.{refusing}
use Rattle.history.proofs.Naming.{Named, named_step, named_power}
use Rattle.history.proofs.Logging.{logged_step, logged_power}
use Rattle.history.proofs.Showing.{told_step}
use Rattle.history.proofs.Identified.{identity_step}
use Rattle.history.proofs.Frames.{read_step}
use Rattle.history.proofs.Tally.{Counting, counting_start}
use Rattle.history.proofs.Counts.{Replies, counting_step}
use Rattle.history.proofs.Pages.{Masked, counters_step}
use Rattle.history.proofs.Shown.{masked_start, masked_step}
use Rattle.history.proofs.Answering.{answers_step}
use Rattle.history.proofs.Lying.{sent_lies}
use Rattle.history.proofs.CoreSteps.{ones_some}
use Rattle.history.proofs.Soundness.{by_power, from_power, Sound, sound_power, sound_step}

-- the state and the history, held together
pub record Held (s : Settings) (d : Device) (h : List Event) : Type 0 where
  pub wide : Wide d
  pub marked : Marked d
  pub sound : Sound s d
  pub inv : Inv d.status.outstanding d.status.halted (map seen h)
  pub lone : AllLone (map seen h)
  pub tracked : Tracked d (map seen h)
  pub contents : Contents h
  pub reply_rules : AllReplyRules h
  pub knows : Known d h
  pub refusals : Refusals s.depth s.capacity s.mask h
  pub named : Named d h
  pub logged : log_by h ≡ log_of d.errors
  pub log_agrees : LogTold h
  pub identity : IdentityTold s.depth s.capacity h
  pub masked : Masked s.mask d
  pub counting : Counting d h
  pub counters : Counters s.mask h
  pub answers : Answers s.depth s.capacity s.mask h

-- one call more
pub held_step : (s : Settings) (d : Device) (a : Lent) (h : List Event) → Typed a.call → Held s d h → Held s (result d a).outcome.state (event (done a (result d a)) ∷ h)
unfolding AllLone Contents AllReplyRules Refusals LogTold IdentityTold Counters Answers
held_step s d a h t i =
    let d' : Device = (result d a).outcome.state in
    let x : Event = event (done a (result d a)) in
    let c : Class d (seen x) d' = comes d a t i.wide.sized in
    let v : Inv d'.status.outstanding d'.status.halted (seen x ∷ map seen h) = keeps d d' (seen x) (map seen h) i.inv c in
    let k : Tracked d' (seen x ∷ map seen h) = tracked_step d d' (seen x) (map seen h) i.tracked c in
    let r : Replies d a = read_step d a t i.wide.sized in
    let m : Moves x (map seen h) = moves d a (map seen h) t i.wide.sized i.tracked i.inv.number in
    record {
      wide = wide_step d a t i.wide;
      marked = marked_step d a i.marked;
      sound = sound_step s d a t i.sound;
      inv = v;
      lone = (lone c, i.lone);
      tracked = k;
      contents = (m, i.contents);
      reply_rules = (reply_rules d a (map seen h) t i.wide.sized i.marked i.inv, i.reply_rules);
      knows = knows d' (x ∷ h) v k (holding_step d a h i.knows.held);
      refusals = (refusing s d a h i.sound i.knows, i.refusals);
      named = named_step d h i.named a t i.wide.sized;
      logged = logged_step d h i.knows.halted (ap (ltb 0) (inv_total i.inv) ∙ ones_some d.status.outstanding) i.named i.logged a t i.wide.sized;
      log_agrees = (told_step d a h t i.wide.sized i.logged, i.log_agrees);
      identity = (identity_step s d a t i.wide.sized i.sound, i.identity);
      masked = masked_step s.mask d a i.masked;
      counting = counting_step d a h r i.counting;
      counters = (counters_step s.mask d a h i.masked i.counting r, i.counters);
      answers = (answers_step s d h a t i.sound (record { sized = i.wide.sized; known = i.knows; inv = i.inv; tracked = i.tracked; logged = i.logged; counting = i.counting }) (sent_lies x h m), i.answers);
    }

-- power-on
pub held_power : (s : Settings) → Held s (power_on s).state []
unfolding fresh_device AllLone Contents AllReplyRules Refusals LogTold IdentityTold Counters Answers
held_power s =
    let d : Device = (power_on s).state in
    let v : Inv d.status.outstanding d.status.halted [] = from_power (λ (d : Device). Inv d.status.outstanding d.status.halted []) s inv_start inv_start in
    let k : Tracked d [] = tracked_start d (from_power (λ (d : Device). d.status.phase ≡ None) s refl refl) in
    record {
      wide = wide_start s;
      marked = marked_start s;
      sound = sound_power s;
      inv = v;
      lone = tt;
      tracked = k;
      contents = tt;
      reply_rules = tt;
      knows = knows d [] v k (holding_power s);
      refusals = tt;
      named = named_power s;
      logged = logged_power s;
      log_agrees = tt;
      identity = tt;
      masked = masked_start s;
      counting = counting_start s;
      counters = tt;
      answers = tt;
    }

-- a run
pub held_run : (s : Settings) (d : Device) (h : List Done) (as' : List Lent) → AllTyped as' → Held s d (map event h) → Held s (run d h as').state (map event (run d h as').calls)
unfolding run AllTyped
held_run s d h [] t i = i
held_run s d h (a ∷ as') t i = held_run s (result d a).outcome.state (done a (result d a) ∷ h) as' t.1 (held_step s d a (map event h) t.0 i)

-- a run from power-on
pub held : (s : Settings) (as' : List Lent) → AllTyped as' → Held s (run_from s as').state (history s as')
held s as' t = held_run s (power_on s).state [] as' t (held_power s)

-- what the device keeps of its business is what the history tells
pub known : (s : Settings) (as' : List Lent) → AllTyped as' → Known (run_from s as').state (history s as')
known s as' t = (held s as' t).knows

-- every event is turned down for just what the table of refusals says, by the history before it
pub refused_exactly : (s : Settings) (as' : List Lent) → AllTyped as' → Refusals s.depth s.capacity s.mask (history s as')
refused_exactly s as' t = (held s as' t).refusals

-- every page 10h ever sent tells the last error since the last reset, as the history before it has it
pub log_agrees : (s : Settings) (as' : List Lent) → AllTyped as' → LogTold (history s as')
log_agrees s as' t = (held s as' t).log_agrees

-- every page of IDENTIFY DEVICE tells depth and capacity
pub identity_told : (s : Settings) (as' : List Lent) → AllTyped as' → IdentityTold s.depth s.capacity (history s as')
identity_told s as' t = (held s as' t).identity

-- no more ones than the depth
within_depth : (s : Settings) (d : Device) (h : List Event) → Held s d h → total (map seen h) ≤ s.depth
unfolding fresh_device ones
within_depth s d h i =
    by_power s (λ z. le_trans (le_of_eq (inv_total i.inv)) (subst (λ (y : Settings). ones d.status.outstanding ≤ y.depth) (i.sound.settings z) (ones_most d i.inv.bound (i.sound.good z))))
    (λ n.
    let none : total (map seen h) ≡ 0 = inv_total i.inv ∙ ap (λ (y : Device). ones y.status.outstanding) (i.sound.zeros n) in
    omega (arith, none))

module _ (s : Settings) (as' : List Lent) (t : AllTyped as') where
  -- each accepted queued command is exactly one of the four, and once not outstanding it never changes
  pub run_fates : Fates (map seen (history s as'))
  run_fates = fates (map seen (history s as')) (held s as' t).lone

  -- a finished command's data frames carried each byte of its range once, in rising order, none outside, any other's a beginning of it; and each byte is the medium's
  pub run_data : Ranges (map seen (history s as')) × Contents (history s as')
  run_data = (ranges (run_from s as').state (map seen (history s as')) (held s as' t).tracked.commands, (held s as' t).contents)

  -- while no error waits to be read, SActive names exactly the outstanding tags
  pub run_sactive : Sactive (map seen (history s as'))
  run_sactive = inv_sactive (held s as' t).inv

  -- while one waits, nothing is outstanding, and SActive names the tags given up at that error and those of queued commands answered with an error since
  pub run_waiting : Waiting (map seen (history s as'))
  run_waiting = inv_waiting (held s as' t).inv

  -- at most the queue depth is ever outstanding
  pub run_depth : Depth s.depth (map seen (history s as'))
  run_depth = within_depth s (run_from s as').state (history s as') (held s as' t)

  -- no two commands of one tag are outstanding
  pub run_single : OnePerTag (map seen (history s as'))
  run_single u l = let n = (held s as' t).inv.number u l in grind arith

  -- every event says no more than it may after those before it, and what it must
  pub run_reply_rules : AllReplyRules (history s as')
  run_reply_rules = (held s as' t).reply_rules
