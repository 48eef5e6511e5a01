-- Bytes that stay bytes: the record and the table of commands.
use Rattle.std.proofs.Common.{◌≡◌, refl, List, ⊎_elim, ℕ, ◌≤◌, ◌<◌, arith, eqb, length, replicate}
use mathlib.Core.Path.{subst⁻¹}
use Rattle.std.proofs.lemmas.Bool.{cases_lt}
use lib.ListN.{get_or-replicate, get_or-eq_default}
use Rattle.bits.specs.Bit.{bit_in}
use Rattle.bits.specs.Little.{Bytes}
use Rattle.bits.proofs.Picks.{by_test}
use Rattle.device_state.specs.State.{placed_bytes, zero_echo, zero_entry}
use Rattle.device_state.specs.Table.{entry_of, table_with, table_without}
use Rattle.device_state.specs.declared.shapes.Echo.{Echo}
use Rattle.device_state.specs.declared.shapes.Entry.{Entry}
use Rattle.device_state.proofs.TableLaws.{length_tab, entry_of_placed, entry_of_cleared}
use Rattle.rules.specs.Act.{failing}
use Rattle.device.proofs.Sized.{SizedRecord}
use Rattle.device.proofs.Fitting.{small_bytes, byte_small}
use Rattle.device.specs.declared.state.Device.{Device}

-- nine bytes of a command are bytes
abbrev pub Small : Echo → Type 0
Small e = Bytes (placed_bytes e)

-- every entry of a table has bytes for bytes
abbrev pub SmallAll : List Entry → Type 0
SmallAll es = (t : ℕ) → Small (entry_of es t).echo

-- the record and the table have bytes for bytes
pub record Wide (d : Device) : Type 0 where
  pub sized : SizedRecord d
  pub entries : SmallAll d.entries

-- zeros are bytes
pub zero_small : Small zero_echo
zero_small = let z : 0 < 256 = omega arith in small_bytes (placed_bytes zero_echo) (z, (z, (z, (z, (z, (z, (z, (z, (z, (z, (z, (z, (z, (z, tt))))))))))))))

-- and so are the failing sector's bytes
pub failing_small : (e : Echo) (sector : ℕ) → Small e → Small (failing e sector)
unfolding failing
failing_small e sector h =
    let z : 0 < 256 = omega arith in
    let s = byte_small sector in
    small_bytes (placed_bytes (failing e sector)) (z, (z, (z, (z, (s 0, (s 1, (s 2, (h 7, (s 3, (s 4, (s 5, (z, (h 12, (h 13, tt))))))))))))))

-- past the end of a table stands an idle entry
past_end : (es : List Entry) → length es ≡ 32 → (t : ℕ) → 32 ≤ t → entry_of es t ≡ zero_entry
past_end es l t h = get_or-eq_default es zero_entry (rw l h)

-- a table of 32 whose entries below 32 are small
small_table : (es : List Entry) → length es ≡ 32 → ((t : ℕ) → t < 32 → Small (entry_of es t).echo) → SmallAll es
small_table es l h t =
    ⊎_elim (h t) (λ (n : 32 ≤ t). subst⁻¹ (λ (e : Entry). Small e.echo) (past_end es l t n) zero_small) (cases_lt t 32)

-- one entry anew
pub placed_small : (es : List Entry) (t : ℕ) (e : Entry) → SmallAll es → Small e.echo → SmallAll (table_with es t e)
unfolding table_with
placed_small es t e h s =
    small_table (table_with es t e) (length_tab 32 _)
    (λ i l.
    subst⁻¹ (λ (x : Entry). Small x.echo) (entry_of_placed es t e i l)
    (by_test (λ (x : Entry). Small x.echo) (eqb i t) e (entry_of es i) (λ _. s) (λ _. h i)))

-- a set's entries cleared
pub cleared_small : (es : List Entry) (set : ℕ) → SmallAll es → SmallAll (table_without es set)
unfolding table_without
cleared_small es set h =
    small_table (table_without es set) (length_tab 32 _)
    (λ i l.
    subst⁻¹ (λ (x : Entry). Small x.echo) (entry_of_cleared es set i l)
    (by_test (λ (x : Entry). Small x.echo) (bit_in 32 set i) zero_entry (entry_of es i) (λ _. zero_small) (λ _. h i)))

-- a table of idle entries
pub idle_small : SmallAll (replicate 32 zero_entry)
idle_small = small_table (replicate 32 zero_entry) refl (λ t l. subst⁻¹ (λ (e : Entry). Small e.echo) (get_or-replicate 32 t zero_entry zero_entry l) zero_small)
