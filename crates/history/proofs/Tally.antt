-- What an event does to the sixteen counters, and that they then tell the events since the last zeroing.
use Rattle.std.proofs.Common.{◌≡◌, refl, ◌∙◌, Bool, true, false, List, [], ◌∷◌, ⊎_elim, ℕ, ◌+◌, ◌^◌, ◌≤◌, ◌<◌, min, arith, length, get_or, replicate}
use lib.ListN.{length-replicate, get_or-eq_default}
use Rattle.bits.specs.Pick.{pick}
use Rattle.counters.specs.Counts.{top, next_count}
use Rattle.device_state.specs.declared.shapes.Settings.{Settings}
use Rattle.device.specs.Device.{fresh_device, power_on}
use Rattle.device.specs.declared.state.Device.{Device}
use Rattle.history.proofs.Soundness.{from_power}
use Rattle.std.proofs.lemmas.List.{get_or-replicate}
use Rattle.std.proofs.lemmas.Bool.{cases_lt}
use Rattle.history.specs.Event.{Event}
use Rattle.history.specs.Counted.{zeroes, events_of, counted_in, row_count}

-- the values after an event: zeros, or else so many more at each row
pub record Counted (zeroed : Bool) (raises : ℕ → ℕ) (l l' : List ℕ) : Type 0 where
  pub long : length l ≡ 16 → length l' ≡ 16
  pub value : (r : ℕ) → r < 16 → length l ≡ 16 → get_or l' r 0 ≡ pick zeroed 0 (next_count (get_or l r 0) (raises r))

-- what the history reads of an event: whether it zeroes, and how many events of each row it is
pub record Reads (e : Event) (z : Bool) (raises : ℕ → ℕ) : Type 0 where
  pub zeroed : zeroes e ≡ z
  pub raised : (r : ℕ) → r < 16 → events_of r e ≡ raises r

-- each of sixteen counters is its events since the last zeroing, held at the top
pub record ValuesTell (values : List ℕ) (h : List Event) : Type 0 where
  pub long : length values ≡ 16
  pub value : (r : ℕ) → r < 16 → get_or values r 0 ≡ row_count r h

-- of a device
abbrev pub Counting : Device → List Event → Type 0
Counting d h = ValuesTell d.values h

-- so many more of what is held at the top
next_told : (z : Bool) (v n k : ℕ) → v ≡ min top n → pick z 0 (next_count v k) ≡ min top (pick z 0 (k + n))
next_told true v n k e = refl
next_told false v n k e = grind arith

-- values that changed as the history reads the event still tell it
pub tells : (values : List ℕ) (e : Event) (h : List Event) → ValuesTell values h → (z : Bool) (raises : ℕ → ℕ) (l : List ℕ) → Reads e z raises → Counted z raises values l → ValuesTell l (e ∷ h)
unfolding counted_in
tells values e h i z raises l s c = record {
  long = c.long i.long;
  value = λ r u. rw (s.zeroed, s.raised r u) (c.value r u i.long ∙ next_told z (get_or values r 0) (counted_in r h) (raises r) (i.value r u));
}

-- sixteen zeros tell an empty history
pub tells_zeros : ValuesTell (replicate 16 0) []
unfolding counted_in
tells_zeros = record { long = length-replicate {A = ℕ} 16 0; value = λ r u. get_or-replicate 16 r 0 0 u }

-- no value is wider than 32 bits
pub tells_small : (values : List ℕ) (h : List Event) → ValuesTell values h → (r : ℕ) → get_or values r 0 < 2 ^ 32
tells_small values h i r =
    ⊎_elim (λ (u : r < 16). let q = i.value r u in omega arith) (λ (u : 16 ≤ r). let q : get_or values r 0 ≡ 0 = get_or-eq_default values 0 (rw i.long u) in omega arith) (cases_lt r 16)

-- power-on, refused or not: all counters are zero, and nothing has happened
pub counting_start : (s : Settings) → Counting (power_on s).state []
unfolding fresh_device
counting_start s = from_power (λ (d : Device). Counting d []) s tells_zeros tells_zeros
