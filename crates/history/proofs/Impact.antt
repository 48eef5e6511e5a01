-- What a call does to the counters is what the history reads of it.
use Rattle.std.proofs.Common.{◌≡◌, refl, sym, ap, ◌∙◌, Bool, true, false, List, ℕ, ◌<◌, get_or}
use lib.ListN.{length-replicate}
use mathlib.Core.Path.{subst⁻¹}
use Rattle.std.proofs.lemmas.List.{get_or-replicate}
use Rattle.bits.specs.Pick.{pick}
use Rattle.counters.specs.Counts.{next_count, single}
use Rattle.counters.proofs.CountLaws.{length_tallied, tallied_at, single_at}
use Rattle.rules.specs.Call.{Call}
use Rattle.rules.specs.declared.acts.Act.{Act}
use Rattle.device.specs.After.{counted_by, renewed_device, reset_held, released_device, zeroed_if, after_of}
use Rattle.device.specs.declared.state.Device.{Device}
use Rattle.history.specs.Reading.{uncounted, one_of, call_raises, call_zeroes}
use Rattle.history.proofs.Tally.{Counted}

-- of a taken call, a page in its replies or not, and its act
abbrev pub Reckons : Device → Call → Bool → Act → Type 0
Reckons d c paged a = Counted (call_zeroes paged c) (λ r. call_raises r c) d.values (after_of d a).values

-- no event of any row
pub unchanged : (l : List ℕ) → Counted false uncounted l l
unchanged l = record { long = λ k. k; value = λ r u k. refl }

-- so many of each
pub counted_values : (d : Device) (ns : List ℕ) (raises : ℕ → ℕ) → ((r : ℕ) → r < 16 → raises r ≡ get_or ns r 0) → Counted false raises d.values (counted_by d ns).values
unfolding counted_by
counted_values d ns raises e = record {
  long = λ k. length_tallied d.values ns ∙ k;
  value = λ r u k. tallied_at d.values ns r (subst⁻¹ (λ (n : ℕ). r < n) k u) ∙ ap (next_count (get_or d.values r 0)) (sym (e r u));
}

-- one event at a row
pub one_is : (row r : ℕ) → r < 16 → one_of row r ≡ get_or (single row) r 0
one_is row r u = sym (single_at row r u)

-- COMRESET: row 9
pub renewed_values : (d : Device) → Counted false (one_of 9) d.values (renewed_device d).values
unfolding renewed_device reset_held released_device
renewed_values d = counted_values (released_device (reset_held d)) (single 9) (one_of 9) (one_is 9)

-- a media error: row 0, if its byte has bit 7
pub failed_values : (d : Device) (b : Bool) → Counted false (pick b (one_of 0) uncounted) d.values (pick b (counted_by d (single 0)) d).values
failed_values d true = counted_values d (single 0) (one_of 0) (one_is 0)
failed_values d false = unchanged d.values

-- zeroed, or not
pub zeroed_values : (d : Device) (b : Bool) → Counted b uncounted d.values (zeroed_if d b).values
unfolding zeroed_if
zeroed_values d true = record { long = λ _. length-replicate {A = ℕ} 16 0; value = λ r u _. get_or-replicate 16 r 0 0 u }
zeroed_values d false = unchanged d.values
