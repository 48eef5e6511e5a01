-- What replies show of the state.
use Rattle.std.specs.Prelude.{Bool, List, ℕ}
use Rattle.device_state.specs.declared.shapes.ErrorRecord.{ErrorRecord}
use Rattle.identity.specs.declared.words.Identity.{Identity}
use Rattle.replies.specs.declared.shown.Shown.{Shown}

-- whether the device is halted, depth and capacity, which rows are kept, the error record, and the counters by row
pub record StateShown : Type 0 where
  pub halted : Bool
  pub identity : Identity
  pub mask : ℕ
  pub errors : ErrorRecord
  pub values : List ℕ

-- the same of what is lent
abbrev pub state_lent : Shown → StateShown
state_lent s = record { halted = s.halted; identity = s.identity; mask = s.mask; errors = s.errors.now; values = s.values.now }
