-- The hours of the table, each by its place.
use Rattle.std.proofs.Common.{◌≡◌, refl, ℕ, ◌+◌, ◌-◌, ◌<◌, List, [], ◌∷◌, length, get_or, None, arith}
use Rattle.std.proofs.lemmas.List.FromFn.{length-range_with_len, get_or-range_with_len}
use Rattle.hourly_table.specs.Samples.{Sampled}
use Rattle.hourly_table.specs.Refused.{input_tests, first_refusal}
use Rattle.hourly_table.specs.Table.{last_hour, hours_of}
use Rattle.hourly_table.proofs.Sorted.{rising}

last_is : (s : Sampled) (ss : List Sampled) (d : Sampled) → last_hour s ss ≡ (get_or (s ∷ ss) (length ss) d).hour
last_is s [] d = refl
last_is s (t ∷ ss) d = last_is t ss d

module _ (s : Sampled) (ss : List Sampled) (numbers : List ℕ) (taken : first_refusal (input_tests (s ∷ ss) numbers) ≡ None) where
  pub hours_count : s.hour + length (hours_of (s ∷ ss)) ≡ (get_or (s ∷ ss) (length ss) s).hour + 1
  hours_count =
      let last = last_is s ss s in
      let rise = rising (s ∷ ss) numbers taken 0 (length ss) s (omega arith) (omega arith) in
      let first : (get_or (s ∷ ss) 0 s).hour ≡ s.hour = refl in
      omega (arith, last, rise, first, length-range_with_len s.hour (last_hour s ss + 1 - s.hour))

  pub hour_at : (k d : ℕ) → k < length (hours_of (s ∷ ss)) → get_or (hours_of (s ∷ ss)) k d ≡ s.hour + k
  hour_at k d h =
      let n = last_hour s ss + 1 - s.hour in
      let inside : k < n = omega (arith, h, length-range_with_len s.hour n) in
      get_or-range_with_len s.hour n k d inside
