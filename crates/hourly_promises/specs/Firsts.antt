-- The first of some samples of which something is so.
use Rattle.std.specs.Prelude.{◌≡◌, ◌⊎◌, ℕ, ◌+◌, ◌<◌, ◌≤◌, true, is_err, List, length, get_or, Option, Some}
use Rattle.pages.specs.Read11.{read_counter}
use Rattle.pages.specs.Others11.{count_others}
use Rattle.hourly_table.specs.Samples.{Sampled}

-- it is so of the sample at the place, and of none before it [hourly-said]
pub record FirstSo (samples : List Sampled) (So : Sampled → Type 0) (place : Option ℕ) : Type 0 where
  pub k : ℕ
  pub stands : place ≡ Some k
  pub inside : k < length samples
  pub so : (d : Sampled) → So (get_or samples k d)
  pub none_before : (j : ℕ) (d : Sampled) → j < k → So (get_or samples j d) → ⊥

-- a reader refuses the page, by itself or for one of the numbers
abbrev pub RefusedFor : List ℕ → List ℕ → Type 0
RefusedFor numbers page = (is_err (count_others page) ≡ true) ⊎ ((j : ℕ) × (j < length numbers) × (is_err (read_counter page (get_or numbers j 0)) ≡ true))

-- the sample at the place is of a lower hour than the one before it, and none before it is [hourly-said]
pub record FirstFall (samples : List Sampled) (place : Option ℕ) : Type 0 where
  pub k : ℕ
  pub stands : place ≡ Some (k + 1)
  pub inside : k + 1 < length samples
  pub falls : (d : Sampled) → (get_or samples (k + 1) d).hour < (get_or samples k d).hour
  pub rises_before : (j : ℕ) (d : Sampled) → j < k → (get_or samples j d).hour ≤ (get_or samples (j + 1) d).hour
