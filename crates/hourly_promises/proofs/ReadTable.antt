-- What the library's reader reads of a table.
use Rattle.std.proofs.Common.{◌≡◌, refl, ap, ◌∙◌, ℕ, suc, ◌+◌, ◌-◌, ◌*◌, ◌<◌, ◌^◌, List, [], ◌∷◌, ◌++◌, length, get_or, codes, arith, lit<, length-append, suc-le-suc}
use Rattle.std.proofs.lemmas.List.FromFn.{length-range_with_len, get_or-range_with_len}
use Rattle.csv.specs.Reading.{default_config, records, records_from}
use Rattle.csv.specs.declared.parser.State.TheVariants as st
use Rattle.hourly_table.specs.Samples.{Sampled}
use Rattle.hourly_table.specs.Changes.{change_in}
use Rattle.hourly_table.specs.Counted.{AllBytes}
use Rattle.hourly_table.specs.Table.{header, last_hour, hours_of, hour_rows, rows_of, table}
use Rattle.hourly_table.proofs.Smalls.{change_small}
use Rattle.hourly_promises.specs.Csv.{header_fields, records_of, AllHours}
use Rattle.hourly_promises.proofs.ReadRows.{three_of, hours_read, all_length}

last_small : (s : Sampled) (ss : List Sampled) → AllHours (s ∷ ss) → last_hour s ss < 2 ^ 64
last_small s [] small = small 0 s (lit< tt)
last_small s (t ∷ ss) small = last_small t ss (λ k d h. small (suc k) d (suc-le-suc h))

hours_small : (samples : List Sampled) → AllHours samples → (k d : ℕ) → k < length (hours_of samples) → get_or (hours_of samples) k d < 2 ^ 64
hours_small [] small k d h = absurd (omega arith)
hours_small (s ∷ ss) small k d h =
    let n = last_hour s ss + 1 - s.hour in
    let inside : k < n = omega (arith, h, length-range_with_len s.hour n) in
    let at = get_or-range_with_len s.hour n k d inside in
    let last = last_small s ss small in
    omega arith

header_read : (m : ℕ) (rest : List ℕ) → records_from default_config (suc m) st.StartRecord (header ++ rest) ≡ header_fields ∷ records_from default_config m st.AfterCr (10 ∷ rest)
unfolding records_from
header_read m rest = rw (three_of (codes "hour") (codes "counter") (codes "change") rest (lit< tt) refl refl refl) refl

-- the header, and a record for each hour and each number, in order
pub table_is_csv : (samples : List Sampled) (numbers : List ℕ) → AllBytes samples → AllHours samples → records default_config (table samples numbers) ≡ header_fields ∷ records_of samples numbers
unfolding table hour_rows
table_is_csv samples numbers bytes hours =
    let all = length (hours_of samples) * length numbers in
    let most = all_length (change_in samples) (λ h n. change_small samples bytes h n) (hours_of samples) numbers in
    let rest = rows_of samples numbers in
    let fuel : length (header ++ rest) + 1 ≡ suc (all + (length (header ++ rest) - all)) = omega (arith, most, length-append header rest) in
    rw fuel
    (header_read (all + (length (header ++ rest) - all)) rest
    ∙ ap (λ l. header_fields ∷ l) (hours_read (change_in samples) (λ h n. change_small samples bytes h n) (length (header ++ rest) - all) (hours_of samples) numbers (hours_small samples hours)))
