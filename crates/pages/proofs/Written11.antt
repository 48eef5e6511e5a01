-- Page 11h as a writer wrote it, read for any number: the value of a kept row, and else absent.
use Rattle.std.proofs.Common.{Option, Some, None, Ok, ◌≡◌, refl, false, List, ℕ, ◌^◌, ◌<◌, arith, length, get_or, take, drop, take_at}
use Rattle.std.proofs.lemmas.Bool.Decides.{nat_tests}
use Rattle.frames.specs.Emit.{WriteGiven}
use Rattle.frames.proofs.EmitLaws.{wrote_all}
use Rattle.counters.specs.Rows.{id_of, kept, keeps_both, row_of}
use Rattle.pages.specs.Sum.{sum256}
use Rattle.pages.specs.Read11.{row_value, read_counter}
use Rattle.pages.specs.Layout11.{page11}
use Rattle.counters.specs.Shown.{shown_for, on_row}
use Rattle.counters.proofs.RowLaws.{row_only, row_missing, id_other}
use Rattle.pages.proofs.Bytes11.{page_sum}
use Rattle.pages.proofs.Trip11.{kept_reads, unkept_absent}
use Rattle.std.specs.Option.{option_map}

module _ (mask : ℕ) (values : List ℕ) where
  -- all bytes of page 11h sum to 0
  pub sums_to_zero : sum256 (page11 mask values) ≡ 0
  sums_to_zero = page_sum mask values

  module _ (small : (k : ℕ) → get_or values k 0 < 2 ^ 32) (number : ℕ) (some : 0 < number) (most : number < 4096) where
    -- no other row has the number
    only_row : (k : ℕ) → k < 16 → id_of k ≡ number → kept mask k ≡ false → (j : ℕ) → j < 16 → id_of j ≡ number → kept mask j ≡ false
    only_row k hk ek off j hj ej =
        let d = id_other j k hj hk in
        grind (arith, nat_tests, d)

    by_row : (row : Option ℕ) → row_of number ≡ row → read_counter (page11 mask values) number ≡ Ok (option_map row_value (on_row mask values row))
    unfolding on_row
    by_row (Some k) e =
        let o = row_only number k e in
        let yes = kept_reads mask values small k o.0 in
        let no = λ (f : kept mask k ≡ false). unkept_absent mask values small number some most (only_row k o.0 o.1 f) in
        grind (arith, yes, no, o.1)
    by_row None e = unkept_absent mask values small number some most (λ k h q. absurd (row_missing number e k h q))

    read_made : read_counter (page11 mask values) number ≡ Ok (option_map row_value (shown_for mask values number))
    unfolding shown_for
    read_made = by_row (row_of number) refl

    -- reading the page that was written gives the value of each kept row, in four bytes, and absent for every other number
    pub read_write : (d d' : List ℕ) (n : ℕ) → WriteGiven (keeps_both mask) (page11 mask values) d (Ok n) d'
        → read_counter (take n d') number ≡ Ok (option_map row_value (shown_for mask values number))
    read_write d d' n w =
        let a = wrote_all (keeps_both mask) (page11 mask values) d n d' w in
        rw (a.2, a.3, take_at (page11 mask values) (drop (length (page11 mask values)) d) (length (page11 mask values)) refl) read_made
