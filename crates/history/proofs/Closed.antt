-- The tables leave a device no choice: a history that keeps them is that of the definitions over the same calls, and so all that holds of every run holds of it.
use Rattle.std.proofs.Common.{◌≡◌, sym, subst, List, map}
use Rattle.device_state.specs.declared.shapes.Settings.{Settings}
use Rattle.device.specs.Lent.{Lent}
use Rattle.history.specs.Event.{Event}
use Rattle.history.specs.ReplyRules.{AllReplyRules}
use Rattle.history.specs.NoChoice.{lent_in, Tabled}
use Rattle.history.specs.Run.{AllTyped, history}
use Rattle.history.proofs.Runs.{held, run_reply_rules}
use Rattle.history.proofs.NoChoice.{no_choice}

module _ (s : Settings) (as' : List Lent) (t : AllTyped as') where
  -- every run keeps the tables
  pub run_tabled : Tabled s.depth s.capacity s.mask (history s as')
  run_tabled = let i = held s as' t in record { refusals = i.refusals; answers = i.answers; contents = i.contents }

  module _ (h : List Event) (l : map lent_in h ≡ map lent_in (history s as')) (k : Tabled s.depth s.capacity s.mask h) where
    -- and a history of the same calls that keeps them is the run's
    pub only_run : h ≡ history s as'
    only_run = no_choice s.depth s.capacity s.mask h (history s as') l k run_tabled

    -- so what each reply may say follows from the tables
    pub reply_rules_follow : AllReplyRules h
    reply_rules_follow = subst AllReplyRules (sym only_run) (run_reply_rules s as' t)
