-- The truth of the counters, for every run of typed calls from any power-on.
use Rattle.std.proofs.Common.{List, []}
use Rattle.device_state.specs.declared.shapes.Settings.{Settings}
use Rattle.device.specs.Device.{power_on}
use Rattle.device.specs.Lent.{Lent}
use Rattle.history.specs.Faithful.{Counters}
use Rattle.history.specs.Run.{AllTyped, run_from, history}
use Rattle.history.proofs.Tally.{Counting}
use Rattle.history.proofs.Shown.{masked_start, masked_run}
use Rattle.history.proofs.Pages.{Masked}
use Rattle.history.proofs.Runs.{held}

-- every page 11h ever sent gives, for each kept row, its events since the last zeroing, held at the top, and absent for every other number
pub counters_tell : (s : Settings) (as' : List Lent) → AllTyped as' → Counters s.mask (history s as')
counters_tell s as' t = (held s as' t).counters

-- and so do the counters that the state holds
pub counting_true : (s : Settings) (as' : List Lent) → AllTyped as' → Counting (run_from s as').state (history s as')
counting_true s as' t = (held s as' t).counting

-- the settings at the end are those of power-on, or out of bounds
pub masked_true : (s : Settings) (as' : List Lent) → Masked s.mask (run_from s as').state
masked_true s as' = masked_run s.mask (power_on s).state [] as' (masked_start s)
