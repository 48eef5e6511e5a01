-- As many tags are outstanding as the table holds commands, and never more than the depth.
use Rattle.std.proofs.Common.{◌≡◌, refl, sym, ap, ◌∙◌, Bool, true, false, List, [], ◌∷◌, ⊎_elim, ℕ, ◌+◌, ◌*◌, ◌/◌, ◌%◌, ◌^◌, ◌≤◌, ◌<◌, mod-lt, div-le_self, div-add-mod', lt_of_le_of_lt, lt_of_lt_of_le, arith, leb, eqb, pow_pos, pow_mono, shr-shr}
use native.Mathlib.Nat.{zero-div, div-eq_of_lt}
use lib.Count.{ones, ones-le}
use Rattle.bits.specs.Bit.{bit_in}
use Rattle.std.proofs.lemmas.Nat.Bits.{bit_at-lt, same_from_bits_below}
use Rattle.std.proofs.lemmas.Bool.{cases_lt}
use Rattle.bits.proofs.Tables.{ones_tied}
use Rattle.std.specs.List.{sum_by}
use Rattle.std.proofs.lemmas.List.Sums.{sum_by-cons}
use Rattle.device_state.specs.State.{zero_entry}
use Rattle.device_state.specs.Table.{entry_of}
use Rattle.device_state.specs.Contradictory.{moved_bad, busy_bad, idle_bad, entry_bad}
use Rattle.device_state.specs.declared.shapes.Settings.{Settings}
use Rattle.device_state.specs.declared.shapes.Entry.{Entry}
use Rattle.device.specs.Device.{contradictory_device}
use Rattle.device.proofs.Sized.{Sized}
use Rattle.device.specs.Ones.{open_entry, open_entries}
use Rattle.device.specs.declared.state.Device.{Device}
use Rattle.device.proofs.Parts.{tag_good}
use Rattle.device_state.specs.UnderWay.{open_for}

-- ---- what the test of an entry says of its count, and of its tag

-- an outstanding tag has a command
busy_count : (s : Settings) (e : Entry) (t : ℕ) (phase : Bool) → busy_bad s e t phase ≡ false → eqb e.count 0 ≡ false
unfolding busy_bad moved_bad
busy_count s e t phase h = grind arith

-- and is below the depth
busy_depth : (s : Settings) (e : Entry) (t : ℕ) (phase : Bool) → busy_bad s e t phase ≡ false → leb s.depth t ≡ false
unfolding busy_bad moved_bad
busy_depth s e t phase h = grind arith

-- an idle tag has none
idle_count : (e : Entry) → idle_bad e ≡ false → eqb e.count 0 ≡ true
unfolding idle_bad
idle_count e h = grind arith

-- a tag's bit says whether its entry is one of a command
bit_open : (s : Settings) (e : Entry) (o t : ℕ) (phase : Bool) → t < 32 → entry_bad s e t (bit_in 32 o t) phase ≡ false → o / 2 ^ t % 2 ≡ open_entry e
unfolding entry_bad
bit_open s e o t phase l h = let y = bit_at-lt o t in grind (arith, busy_count s e t phase, idle_count e)

-- the bit of a tag at or above the depth is off
bit_above : (s : Settings) (e : Entry) (o t : ℕ) (phase : Bool) → t < 32 → s.depth ≤ t → entry_bad s e t (bit_in 32 o t) phase ≡ false → o / 2 ^ t % 2 ≡ 0
unfolding entry_bad
bit_above s e o t phase l a h = let y = bit_at-lt o t in grind (arith, busy_depth s e t phase)

-- ---- a number of w digits, all of which from k on are 0, has k digits

high_zero : (w k m : ℕ) → m < 2 ^ w → ((t : ℕ) → k ≤ t → t < w → m / 2 ^ t % 2 ≡ 0) → m / 2 ^ k ≡ 0
high_zero w k m l h =
    same_from_bits_below w (m / 2 ^ k) 0 (lt_of_le_of_lt (div-le_self m (2 ^ k)) l) (pow_pos w)
    (λ j _.
    ap (λ (n : ℕ). n % 2) (shr-shr m k j)
    ∙ ⊎_elim
    (λ (b : k + j < w). h (k + j) (omega arith) b)
    (λ (b : w ≤ k + j). ap (λ (n : ℕ). n % 2) (div-eq_of_lt (lt_of_lt_of_le l (pow_mono {i = w} {j = k + j} b))))
    (cases_lt (k + j) w)
    ∙ sym (ap (λ (n : ℕ). n % 2) (zero-div (2 ^ j))))

below_top : (w k m : ℕ) → m < 2 ^ w → ((t : ℕ) → k ≤ t → t < w → m / 2 ^ t % 2 ≡ 0) → m < 2 ^ k
below_top w k m l h =
    let e : m / 2 ^ k ≡ 0 = high_zero w k m l h in
    let s : 0 * 2 ^ k + m % 2 ^ k ≡ m = rw e at (div-add-mod' m (2 ^ k)) in
    let b : m % 2 ^ k < 2 ^ k = mod-lt m (pow_pos k) in
    omega arith

-- ---- of a device

-- the same sum, as the laws of counts have it
open_sum : (es : List Entry) → sum_by open_entry es ≡ open_entries es
open_sum [] = refl
open_sum (e ∷ es) = sum_by-cons open_entry e es ∙ ap (λ (n : ℕ). open_entry e + n) (open_sum es)

-- as many tags are outstanding as there are commands in the table
pub ones_open : (d : Device) → Sized d → contradictory_device d ≡ false → ones d.status.outstanding ≡ open_entries d.entries
ones_open d w h =
    ones_tied open_entry zero_entry d.entries d.status.outstanding (rw w.entries w.outstanding)
    (λ t l.
    let k : t < 32 = rw w.entries at l in
    bit_open d.settings (entry_of d.entries t) d.status.outstanding t (open_for d.status.phase t) k (tag_good d h t k))
    ∙ open_sum d.entries

-- at most the depth
pub ones_most : (d : Device) → d.status.outstanding < 2 ^ 32 → contradictory_device d ≡ false → ones d.status.outstanding ≤ d.settings.depth
ones_most d w h =
    ones-le d.settings.depth d.status.outstanding
    (below_top 32 d.settings.depth d.status.outstanding w
    (λ t a k. bit_above d.settings (entry_of d.entries t) d.status.outstanding t (open_for d.status.phase t) k a (tag_good d h t k)))

-- so the table never holds more commands than that
pub open_most : (d : Device) → Sized d → contradictory_device d ≡ false → open_entries d.entries ≤ d.settings.depth
open_most d w h = rw (← ones_open d w h) (ones_most d w.outstanding h)
