-- What is read where of page 11h as it is made: each kept row's identifier and value, and 0000h behind the last.
use Rattle.std.proofs.Common.{◌≡◌, ◌∙◌, true, List, ℕ, suc, ◌+◌, ◌^◌, ◌<◌, arith, get_or}
use Rattle.bits.specs.Little.{le_at}
use Rattle.counters.specs.Rows.{id_of, kept}
use Rattle.pages.specs.Layout11.{page11}
use Rattle.counters.proofs.RowLaws.{id_small}
use Rattle.pages.proofs.Filling.{rows_short}
use Rattle.pages.proofs.Bytes11.{L, row_head, row_value_lem, page_row, page_zero}
use Rattle.pages.specs.Entries.{id_at}
use Rattle.pages.proofs.ByWidth.{le_stands}

module _ (mask : ℕ) (values : List ℕ) where
  abbrev page : List ℕ
  page = page11 mask values

  -- a kept row's identifier and value are read where it stands
  pub page_id : (r : ℕ) → r < 16 → kept mask r ≡ true → id_at page (4 + L mask values r) ≡ 8192 + id_of r
  unfolding id_at
  page_id r h e =
      let q = id_small r h in
      le_stands 2 (8192 + id_of r) (omega arith) page (4 + L mask values r)
      (λ j k. page_row mask values r j h e (omega arith) ∙ row_head (id_of r) (get_or values r 0) j k)

  pub page_value : (r : ℕ) → r < 16 → kept mask r ≡ true → get_or values r 0 < 2 ^ 32 → le_at page (4 + L mask values r + 2) 4 ≡ get_or values r 0
  page_value r h e small =
      le_stands 4 (get_or values r 0) small page (4 + L mask values r + 2)
      (λ j k.
      let a : 4 + L mask values r + 2 + j ≡ 4 + L mask values r + (2 + j) = omega arith in
      rw a (page_row mask values r (2 + j) h e (omega arith) ∙ row_value_lem (id_of r) (get_or values r 0) j))

  two_zeros : (a : ℕ) → get_or page a 0 ≡ 0 → get_or page (suc a) 0 ≡ 0 → id_at page a ≡ 0
  unfolding id_at
  two_zeros a p q = omega arith

  -- behind the last row stands 0000h
  pub page_end : id_at page (4 + L mask values 16) ≡ 0
  page_end =
      let s = rows_short mask values 16 in
      let a : 4 + (L mask values 16 + 1) ≡ suc (4 + L mask values 16) = omega arith in
      two_zeros (4 + L mask values 16) (page_zero mask values (L mask values 16) (omega arith) (omega arith)) (rw a at (page_zero mask values (L mask values 16 + 1) (omega arith) (omega arith)))
