-- What the state shows of a counter's number is what the history tells.
use Rattle.std.proofs.Common.{Option, ◌≡◌, refl, ap, ◌∙◌, false, List, ℕ, arith}
use Rattle.counters.specs.Rows.{row_of}
use Rattle.counters.specs.Shown.{on_row, shown_for}
use Rattle.device_state.specs.declared.shapes.Settings.{Settings}
use Rattle.device.specs.Device.{contradictory_device}
use Rattle.device.specs.declared.state.Device.{Device}
use Rattle.device.proofs.Keeping.{settings_good}
use Rattle.history.specs.Event.{Event}
use Rattle.history.specs.Counted.{told_at, told_for}
use Rattle.device.specs.Lent.{Lent}
use Rattle.history.specs.Run.{AllTyped, run_from, history}
use Rattle.history.proofs.Tally.{ValuesTell}
use Rattle.history.proofs.Counters.{counting_true, masked_true}

-- what is shown of a row, if there is one, is what the history tells
told_shown : (mask : ℕ) (values : List ℕ) (h : List Event) → ValuesTell values h → (number : ℕ) (row : Option ℕ) → row_of number ≡ row → on_row mask values row ≡ told_at mask h row
unfolding on_row
told_shown mask values h i number row e = grind arith

-- what a state that does not contradict itself shows of a counter's number, at the end of every run from power-on
pub counter_true : (s : Settings) (as' : List Lent) → AllTyped as' → (number : ℕ) → contradictory_device (run_from s as').state ≡ false
    → shown_for (run_from s as').state.settings.mask (run_from s as').state.values number ≡ told_for s.mask (history s as') number
unfolding shown_for
counter_true s as' t number g =
    let d : Device = (run_from s as').state in
    let h : List Event = history s as' in
    told_shown d.settings.mask d.values h (counting_true s as' t) number (row_of number) refl ∙ ap (λ (x : ℕ). told_for x h number) (masked_true s as' (settings_good d g))
