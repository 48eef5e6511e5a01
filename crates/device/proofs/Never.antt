-- A state that power-on makes never contradicts itself.
use Rattle.std.proofs.Common.{None, ◌≡◌, refl, Bool, true, false, not, ℕ, lit<, replicate}
use mathlib.Core.Bool.{and-false}
use lib.ListN.{get_or-replicate}
use Rattle.bits.proofs.Masks.{no_bit}
use Rattle.counters.specs.Rows.{kept}
use Rattle.device_state.specs.State.{zero_entry}
use Rattle.device_state.specs.Contradictory.{settings_out, entry_bad, idle_bad, tag_bad, table_bad, status_bad, record_bad, row_bad_at, rows_bad, contradictory}
use Rattle.device_state.specs.declared.shapes.Settings.{Settings}
use Rattle.device_state.proofs.TableLaws.{some_never}
use Rattle.device.specs.Device.{fresh_device, zero_device, contradictory_device, power_on}
use Rattle.refusals.proofs.FirstLaws as firsts
use Rattle.refusals.specs.Ladders.{power_ladder}

-- an idle tag with a zero entry
pub idle_tag_lem : (s : Settings) (t : ℕ) (b : Bool) → entry_bad s zero_entry t false b ≡ false
unfolding entry_bad idle_bad
idle_tag_lem s t b = refl

pub fresh_table : (s : Settings) → table_bad s (replicate 32 zero_entry) 0 None ≡ false
unfolding table_bad
fresh_table s =
    some_never (tag_bad s (replicate 32 zero_entry) 0 None) 32
    (λ t h. rw (get_or-replicate 32 t zero_entry zero_entry h, no_bit t) (idle_tag_lem s t false))

pub fresh_rows : (mask : ℕ) → rows_bad mask (replicate 16 0) ≡ false
unfolding rows_bad
fresh_rows mask = some_never (row_bad_at mask (replicate 16 0)) 16 (λ row h. rw (get_or-replicate {A = ℕ} 16 row 0 0 h) (and-false (not (kept mask row))))

-- with settings within bounds
pub never_contradicts : (s : Settings) → settings_out s ≡ false → contradictory_device (fresh_device s) ≡ false
unfolding contradictory_device fresh_device contradictory status_bad record_bad
never_contradicts s h = rw (h, fresh_table s, fresh_rows s.mask)

-- what a refused power-on hands back: every later call on it is refused with 1
pub zeros_contradict : contradictory_device zero_device ≡ true
unfolding contradictory_device fresh_device contradictory settings_out
zeros_contradict = refl

-- power-on, taken
pub never_contradicts_power : (s : Settings) → (power_on s).refusal ≡ None → contradictory_device (power_on s).state ≡ false
unfolding power_on
never_contradicts_power s z = rw z (never_contradicts s ((firsts.first_exactly (power_ladder (settings_out s)) tt).none.0 z 0 (lit< tt)))
