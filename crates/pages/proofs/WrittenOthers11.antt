-- A page 11h as a writer wrote it has no entry but the sixteen counters'.
use Rattle.std.proofs.Common.{◌≡◌, refl, ap, ◌∙◌, true, false, List, length, take, drop, ℕ, zero, suc, ◌+◌, ◌<◌, ◌≤◌, Ok, arith, take_at}
use Rattle.frames.specs.Emit.{WriteGiven}
use Rattle.frames.proofs.EmitLaws.{wrote_all}
use Rattle.counters.specs.Rows.{id_of, kept, keeps_both}
use Rattle.pages.specs.Layout11.{rows_to, page11}
use Rattle.counters.proofs.RowLaws.{id_small, row_found}
use Rattle.pages.proofs.Filling.{length_kept, length_skip}
use Rattle.pages.proofs.Bytes11.{page_length, page_sum}
use Rattle.pages.specs.Others11.{id_other, count_others}
use Rattle.pages.proofs.Counting.{counted, ahead, after_step, turn, counts_start, counts_total}
use Rattle.pages.proofs.Trip11.{number_row, vendor_row, behind, page_step, page_stop}

-- the identifier of a row, with its width, is no other
row_no_other : (row : ℕ) → row < 16 → id_other (8192 + id_of row) ≡ false
row_no_other row h = rw (vendor_row (id_of row) (id_small row h), number_row (id_of row) (id_small row h), row_found row h) refl

module _ (mask : ℕ) (values : List ℕ) where
  abbrev page : List ℕ
  page = page11 mask values

  -- none is counted at a kept row
  none_kept : (n : ℕ) → n < 16 → kept mask n ≡ true → counted (ahead page (behind mask values n)) 0 ≡ counted (ahead page (behind mask values (suc n))) 0
  none_kept n h e =
      let l = length_kept mask values n e in
      let a : behind mask values n + 2 + 4 ≡ behind mask values (suc n) = omega arith in
      turn page (behind mask values n) 0 ∙ ap (after_step page 0) (page_step mask values n h e) ∙ rw (row_no_other n h, a) refl

  none_more : (n : ℕ) → n < 16 → counted (ahead page (behind mask values n)) 0 ≡ counted (ahead page (behind mask values (suc n))) 0
  none_more n h = grind (arith, none_kept n h, length_skip mask values n)

  -- nor at the first n rows
  none_walked : (n : ℕ) → n ≤ 16 → counted (ahead page 4) 0 ≡ counted (ahead page (behind mask values n)) 0
  unfolding rows_to
  none_walked zero h = refl
  none_walked (suc n) h = none_walked n (omega arith) ∙ none_more n (omega arith)

  made : count_others page ≡ Ok 0
  made =
      counts_total page (page_length mask values) (page_sum mask values)
      ∙ counts_start page
      ∙ none_walked 16 (omega arith)
      ∙ turn page (behind mask values 16) 0
      ∙ ap (after_step page 0) (page_stop mask values)

  -- of the page that was written none is counted
  pub none_written : (d d' : List ℕ) (n : ℕ) → WriteGiven (keeps_both mask) (page11 mask values) d (Ok n) d' → count_others (take n d') ≡ Ok 0
  none_written d d' n w =
      let a = wrote_all (keeps_both mask) (page11 mask values) d n d' w in
      rw (a.2, a.3, take_at (page11 mask values) (drop (length (page11 mask values)) d) (length (page11 mask values)) refl) made
