-- The rows of an hour, by the pages that it was given.
use Rattle.std.proofs.Common.{◌≡◌, refl, ℕ, List, Option}
use Rattle.std.specs.Borrow.{Bor}
use Rattle.std.specs.List.{flat_map}
use Rattle.std.specs.Option.{option_map}
use Rattle.hourly_table.specs.Samples.{Sampled, page_of_hour, page_before}
use Rattle.hourly_table.specs.Changes.{between, change_in}
use Rattle.hourly_table.specs.Rows.{row_text}
use Rattle.hourly_table.specs.Table.{hour_rows}
use Rattle.hourly_table.specs.declared.hours.Hour.{Hour}

abbrev pub pages_of : Option (Bor (List ℕ)) → Option (List ℕ)
pages_of page = option_map (λ (p : Bor (List ℕ)). p.now) page

abbrev pub row_by : Hour → ℕ → List ℕ
row_by h n = row_text h.hour n (between n (pages_of h.before) (pages_of h.page))

rows_by_pages : (samples : List Sampled) (numbers : List ℕ) (hour h : ℕ) (before page : Option (List ℕ)) → h ≡ hour → before ≡ page_before samples hour → page ≡ page_of_hour samples hour
    → flat_map (λ n. row_text h n (between n before page)) numbers ≡ hour_rows samples numbers hour
unfolding hour_rows change_in
rows_by_pages samples numbers hour h before page e b p = rw (e, b, p) refl

pub rows_by : (samples : List Sampled) (numbers : List ℕ) (hour : ℕ) (h : Hour) → h.hour ≡ hour → pages_of h.before ≡ page_before samples hour → pages_of h.page ≡ page_of_hour samples hour
    → flat_map (row_by h) numbers ≡ hour_rows samples numbers hour
rows_by samples numbers hour h e b p = rows_by_pages samples numbers hour h.hour (pages_of h.before) (pages_of h.page) e b p
