-- Which hours have rows.
use Rattle.std.proofs.Common.{◌≡◌, refl, sym, ap, ◌∙◌, ℕ, ◌-◌, List, [], ◌∷◌, length, map, Some, None, arith}
use Rattle.std.specs.List.{flat_map}
use Rattle.std.specs.Prelude.{slice_get}
use Rattle.hourly_table.specs.Samples.{Sampled, sampled}
use Rattle.hourly_table.specs.Table.{last_hour, hours_of, hour_rows, rows_of}
use Rattle.hourly_table.specs.Room.{rows_between}
use Rattle.hourly_table.specs.declared.samples.Sample.{Sample}

flat_map_nothing : {X : Type 0} (f : X → List ℕ) → ((x : X) → f x ≡ []) → (xs : List X) → flat_map f xs ≡ []
flat_map_nothing f none [] = refl
flat_map_nothing f none (x ∷ xs) = rw (none x) (flat_map_nothing f none xs)

-- of no number asked there are no rows
pub no_numbers : (samples : List Sampled) (numbers : List ℕ) → length numbers ≡ 0 → [] ≡ rows_of samples numbers
unfolding hour_rows
no_numbers samples [] e = sym (flat_map_nothing (hour_rows samples []) (λ h. refl) (hours_of samples))
no_numbers samples (n ∷ ns) e = absurd (omega arith)

-- nor are there of no sample
pub no_samples : (samples : List Sample) (numbers : List ℕ) → None ≡ slice_get samples 0 → [] ≡ rows_of (map sampled samples) numbers
no_samples [] numbers e = refl
no_samples (s ∷ ss) numbers e = absurd (let z : None ≡ Some s = e in cc)

last_is : (s : Sample) (ss : List Sample) (last : Sample) → Some last ≡ slice_get (s ∷ ss) (length ss) → last_hour (sampled s) (map sampled ss) ≡ last.hour
last_is s [] last e = let z : Some last ≡ Some s = e in ap (λ (x : Sample). x.hour) (let y : s ≡ last = cc in y)
last_is s (t ∷ ss) last e = last_is t ss last e

-- from the first sample's hour to the last one's
pub first_to_last : (samples : List Sample) (numbers : List ℕ) (first last : Sample) → Some first ≡ slice_get samples 0 → Some last ≡ slice_get samples (length samples - 1)
    → rows_between (map sampled samples) numbers first.hour last.hour ≡ rows_of (map sampled samples) numbers
unfolding rows_between
first_to_last [] numbers first last f l = absurd (let z : Some first ≡ None = f in cc)
first_to_last (s ∷ ss) numbers first last f l =
    let z : Some first ≡ Some s = f in
    let same : first ≡ s = cc in
    rw (same, last_is s ss last (l ∙ ap (slice_get (s ∷ ss)) (omega arith))) refl
