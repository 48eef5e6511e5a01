-- Which sample a refusal is about.
use Rattle.std.specs.Prelude.{ℕ, suc, ◌==◌, Bool, ◌||◌, List, drop, ltb, position, Option, None}
use Rattle.std.specs.List.{list_any, zip}
use Rattle.std.specs.Option.{option_map}
use Rattle.refusals.specs.First.{refusal_in}
use Rattle.refusals.specs.Number.{number, number_told}
use Rattle.refusals.specs.declared.reasons.Refusal.{Refusal}
use Rattle.pages.specs.Read11.{read_counter}
use Rattle.pages.specs.Others11.{count_others}
use Rattle.hourly_table.specs.Samples.{Sampled}
use Rattle.hourly_table.specs.declared.reasons.TableRefusal.{TableRefusal}
use Rattle.hourly_table.specs.declared.reasons.TableRefusal.TheVariants.{Reading, HourBackwards, TableShort}

-- a reader refuses the page so: by itself, or for one of the numbers
abbrev pub refused_so : Refusal → List ℕ → List ℕ → Bool
refused_so refusal numbers page =
    number_told (refusal_in (count_others page)) == number refusal || list_any (λ n. number_told (refusal_in (read_counter page n)) == number refusal) numbers

-- an hour is lower than the one before it
abbrev pub lower : Sampled × Sampled → Bool
lower pair = ltb pair.1.hour pair.0.hour

-- the first sample whose page is refused so, or whose hour is lower than the one before it; a table too long is about none [hourly-said]
abbrev pub place_of : List Sampled → List ℕ → TableRefusal → Option ℕ
place_of samples numbers (Reading refusal) = position (λ s. refused_so refusal numbers s.page) samples
place_of samples numbers HourBackwards = option_map suc (position lower (zip samples (drop 1 samples)))
place_of samples numbers TableShort = None
