-- The page of the hour before: that which stands for it. An hour of which there is no sample has no change, nor has the hour behind it.
use Rattle.std.proofs.Common.{◌≡◌, refl, ℕ, ◌+◌, ◌<◌, suc, List, ◌∷◌, ◌++◌, length, get_or, Some, None, add-one}
use Rattle.hourly_table.specs.Samples.{Sampled, page_before}
use Rattle.hourly_table.specs.Changes.{change_in}
use Rattle.hourly_table.proofs.ChangeLaws.{empty_here, empty_before}
use Rattle.hourly_table.proofs.StandLaws.{later_stands, none_there}

-- what stands for an hour is the page of the hour before for the one behind it
pub stands_before : (xs : List Sampled) (s : Sampled) (ys : List Sampled) → ((k : ℕ) (d : Sampled) → k < length ys → (get_or ys k d).hour ≡ s.hour → ⊥) → page_before (xs ++ s ∷ ys) (s.hour + 1) ≡ Some s.page
unfolding page_before
stands_before xs s ys none = rw add-one (later_stands xs s ys none)

-- hour 0 has none before it
pub none_before_0 : (samples : List Sampled) → page_before samples 0 ≡ None
unfolding page_before
none_before_0 samples = refl

module _ (samples : List Sampled) (hour number : ℕ) (none : (k : ℕ) (d : Sampled) → k < length samples → (get_or samples k d).hour ≡ hour → ⊥) where
  pub no_sample : change_in samples hour number ≡ None
  no_sample = empty_here samples hour number (none_there samples hour none)

  before_gap : page_before samples (suc hour) ≡ None
  unfolding page_before
  before_gap = none_there samples hour none

  pub none_before : change_in samples (hour + 1) number ≡ None
  none_before = rw add-one (empty_before samples (suc hour) number before_gap)
