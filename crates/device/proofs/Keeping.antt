-- Taken link events never make a state that contradicts itself.
use Rattle.std.proofs.Common.{◌≡◌, true, false, ◌||◌, List, ℕ, ◌<◌, get_or, arith}
use Rattle.counters.specs.Rows.{kept, keeps_both}
use Rattle.counters.specs.Counts.{tallied, single}
use Rattle.counters.proofs.CountLaws.{tallied_none, single_other}
use Rattle.device_state.specs.Contradictory.{settings_out, table_bad, status_bad, record_bad, row_bad_at, rows_bad, contradictory, amount_refused_at, tally_refused}
use Rattle.device_state.proofs.TableLaws.{some_never, some_absent}
use Rattle.identity.specs.Words.{fits_identity}
use Rattle.device.specs.Step.{identity_told}
use Rattle.device.specs.Device.{contradictory_device}
use Rattle.device.specs.After.{counted_by}
use Rattle.device.specs.declared.state.Device.{Device}

-- no event of a row that is not kept
abbrev pub Spares : ℕ → List ℕ → Type 0
Spares mask ns = (i : ℕ) → i < 16 → kept mask i ≡ false → get_or ns i 0 ≡ 0

-- of one row that is kept
pub single_spares : (mask row : ℕ) → kept mask row ≡ true → Spares mask (single row)
single_spares mask row k i l n = single_other row i (λ e. grind arith)

-- of amounts that are not refused
pub tally_spares : (mask : ℕ) (ns : List ℕ) → tally_refused mask ns ≡ false → Spares mask ns
unfolding tally_refused
tally_spares mask ns h i l n = let was = some_absent (amount_refused_at mask ns) 16 i h l in grind arith

-- events of rows that are kept
kept_rows : (mask : ℕ) (values ns : List ℕ) → Spares mask ns → rows_bad mask values ≡ false → rows_bad mask (tallied values ns) ≡ false
unfolding rows_bad
kept_rows mask values ns k h =
    some_never (row_bad_at mask (tallied values ns)) 16
    (λ i l. let was = some_absent (row_bad_at mask values) 16 i h l in let none = k i l in let same = tallied_none values ns i in grind arith)

-- what is found where a state does not contradict itself
pub rows_good : (d : Device) → contradictory_device d ≡ false → rows_bad d.settings.mask d.values ≡ false
unfolding contradictory_device contradictory
rows_good d h = grind arith

pub rest_good : (d : Device) → contradictory_device d ≡ false
    → (settings_out d.settings || table_bad d.settings d.entries d.status.outstanding d.status.phase) || (status_bad d.status d.errors.set || record_bad d.errors) ≡ false
unfolding contradictory_device contradictory
rest_good d h = grind arith

pub settings_good : (d : Device) → contradictory_device d ≡ false → settings_out d.settings ≡ false
unfolding contradictory_device contradictory
settings_good d h = grind arith

-- the mask keeps what it must
pub both_kept : (d : Device) → contradictory_device d ≡ false → keeps_both d.settings.mask ≡ true
unfolding settings_out
both_kept d h = let s = settings_good d h in grind arith

-- depth and capacity can be told
pub identity_fits : (d : Device) → contradictory_device d ≡ false → fits_identity (identity_told d.settings) ≡ true
unfolding settings_out
identity_fits d h = let s = settings_good d h in grind arith

-- rows 0 and 9 are kept
pub first_kept : (d : Device) → contradictory_device d ≡ false → kept d.settings.mask 0 ≡ true
first_kept d h = let k = both_kept d h in grind arith

pub resets_kept : (d : Device) → contradictory_device d ≡ false → kept d.settings.mask 9 ≡ true
resets_kept d h = let k = both_kept d h in grind arith

-- more of rows that are kept
pub counted_good : (d : Device) (ns : List ℕ) → contradictory_device d ≡ false → Spares d.settings.mask ns → contradictory_device (counted_by d ns) ≡ false
unfolding contradictory_device contradictory counted_by
counted_good d ns h k = let rows = kept_rows d.settings.mask d.values ns k (rows_good d h) in grind arith
