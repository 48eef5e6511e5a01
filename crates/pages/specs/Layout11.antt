-- Log page 11h as it is made.
use Rattle.std.specs.Prelude.{ℕ, zero, suc, ◌+◌, ◌-◌, List, [], ◌++◌, length, get_or, replicate, Result, Ok, Err}
use Rattle.bits.specs.Pick.{pick}
use Rattle.bits.specs.Little.{le_bytes}
use Rattle.counters.specs.Rows.{id_of, kept, keeps_both}
use Rattle.refusals.specs.declared.reasons.Refusal.{Refusal}
use Rattle.refusals.specs.declared.reasons.Refusal.TheVariants.{Unfit}
use Rattle.pages.specs.Sum.{sealed_page}

-- a row: 2000h + identifier, which says 4 value bytes, then the value [page-11h]
unfoldable pub row_bytes : ℕ → ℕ → List ℕ
row_bytes id v = le_bytes 2 (8192 + id) ++ le_bytes 4 v

-- the kept ones of the first n rows, one behind the other
unfoldable pub rows_to : ℕ → List ℕ → ℕ → List ℕ
rows_to mask values zero = []
rows_to mask values (suc n) = rows_to mask values n ++ pick (kept mask n) (row_bytes (id_of n) (get_or values n 0)) []

-- from byte 4 the kept ones of the first n rows; the rest is 0 [page-11h]
unfoldable pub open_to : ℕ → List ℕ → ℕ → List ℕ
open_to mask values n = (replicate 4 0 ++ rows_to mask values n) ++ replicate (508 - length (rows_to mask values n)) 0

-- the page of all sixteen rows, with its sum byte [page-11h] [page-from-zeros]
unfoldable pub page11 : ℕ → List ℕ → List ℕ
page11 mask values = sealed_page (open_to mask values 16)

-- the page by value, or 25 for a mask that does not keep rows 0 and 9 [unfit-mask]
abbrev pub counters_page : ℕ → List ℕ → Result (List ℕ) Refusal
counters_page mask values = pick (keeps_both mask) (Ok (page11 mask values)) (Err Unfit)
