-- Samples, and which of them stands for an hour.
use Rattle.std.specs.Prelude.{ℕ, zero, suc, ◌==◌, List, filter, Option, None}
use Rattle.std.specs.List.{last_or}
use Rattle.std.specs.Option.{option_map}
use Rattle.hourly_table.specs.declared.samples.Sample.{Sample}

-- a sample's hour, and the bytes of its page
pub record Sampled : Type 0 where
  pub hour : ℕ
  pub page : List ℕ

abbrev pub sampled : Sample → Sampled
sampled s = record { hour = s.hour; page = s.page.now }

-- of the samples of an hour the last in the input stands, with the whole of its page; or there is none [table-stands]
unfoldable pub page_of_hour : List Sampled → ℕ → Option (List ℕ)
page_of_hour samples hour = option_map (λ s. s.page) (last_or None (filter (λ s. s.hour == hour) samples))

-- and of the hour before; there is none before hour 0
unfoldable pub page_before : List Sampled → ℕ → Option (List ℕ)
page_before samples zero = None
page_before samples (suc hour) = page_of_hour samples hour
