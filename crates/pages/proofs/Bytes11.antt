-- What stands where in page 11h as it is made: 512 bytes, a sum of 0, each kept row, and then zeros.
use Rattle.std.proofs.Common.{◌≡◌, refl, ap, ◌∙◌, true, ⊎_elim, List, ◌++◌, ℕ, zero, suc, ◌+◌, ◌-◌, ◌<◌, ◌≤◌, arith, leb-true, leb-false, leb, length, get_or, replicate, length-set, get_or-set_other, get_or-append-add}
use lib.ListN.{get_or-replicate, get_or-append}
use Rattle.bits.specs.Little.{le_bytes}
use Rattle.bits.proofs.Picks.{tested}
use Rattle.counters.specs.Rows.{id_of, kept}
use Rattle.pages.specs.Sum.{sum256, sum_byte, sealed_page}
use Rattle.pages.proofs.Sealed.{sum_sealed}
use Rattle.pages.specs.Layout11.{row_bytes, rows_to, open_to, page11}
use Rattle.pages.proofs.Filling.{rows_kept, length_kept, length_skip, rows_short, length_open}

-- ---- the two numbers of a row

pub row_head : (id v j : ℕ) → j < 2 → get_or (row_bytes id v) j 0 ≡ get_or (le_bytes 2 (8192 + id)) j 0
unfolding row_bytes
row_head id v j h = get_or-append (le_bytes 2 (8192 + id)) (le_bytes 4 v) 0 j h

pub row_value_lem : (id v j : ℕ) → get_or (row_bytes id v) (2 + j) 0 ≡ get_or (le_bytes 4 v) j 0
unfolding row_bytes
row_value_lem id v j = get_or-append-add (le_bytes 2 (8192 + id)) (le_bytes 4 v) j 0

module _ (mask : ℕ) (values : List ℕ) where
  -- how long the kept ones of the first n rows are
  abbrev pub L : ℕ → ℕ
  L n = length (rows_to mask values n)

  abbrev pub page : List ℕ
  page = page11 mask values

  open_zero : (i : ℕ) → L 16 ≤ i → i < 508 → get_or (open_to mask values 16) (4 + i) 0 ≡ 0
  unfolding open_to
  open_zero i h k =
      let s = rows_short mask values 16 in
      let m = 508 - L 16 in
      let e : L 16 + (i - L 16) ≡ i = omega arith in
      get_or-append-add (replicate 4 0) (rows_to mask values 16 ++ replicate m 0) i 0
      ∙ (rw e at (get_or-append-add (rows_to mask values 16) (replicate m 0) (i - L 16) 0))
      ∙ get_or-replicate m (i - L 16) 0 0 (omega arith)

  open_row : (i : ℕ) → i < L 16 → get_or (open_to mask values 16) (4 + i) 0 ≡ get_or (rows_to mask values 16) i 0
  unfolding open_to
  open_row i h =
      get_or-append-add (replicate 4 0) (rows_to mask values 16 ++ replicate (508 - L 16) 0) i 0
      ∙ get_or-append (rows_to mask values 16) (replicate (508 - L 16) 0) 0 i h

  rows_grow : (n : ℕ) → L n ≤ L (suc n)
  rows_grow n = grind (arith, length_kept mask values n, length_skip mask values n)

  rows_same : (n i : ℕ) → i < L n → get_or (rows_to mask values (suc n)) i 0 ≡ get_or (rows_to mask values n) i 0
  unfolding rows_to
  rows_same n i h = get_or-append (rows_to mask values n) _ 0 i h

  -- the first rows stand in front of all
  rows_prefix : (n r : ℕ) → r ≤ n → (L r ≤ L n) × ((i : ℕ) → i < L r → get_or (rows_to mask values n) i 0 ≡ get_or (rows_to mask values r) i 0)
  rows_prefix zero r h =
      let e : r ≡ 0 = omega arith in
      rw e (omega arith, λ i k. refl)
  rows_prefix (suc n) r h =
      ⊎_elim
      (λ t.
      let p = rows_prefix n r (leb-true r n t) in
      let g = rows_grow n in
      (omega arith, λ i k. rows_same n i (omega arith) ∙ p.1 i k))
      (λ f.
      let l = leb-false r n f in
      let e : r ≡ suc n = omega arith in
      rw e (omega arith, λ i k. refl))
      (tested (leb r n))

  -- the page's bytes but the last are those of the open page
  page_byte : (i : ℕ) → i < 511 → get_or page i 0 ≡ get_or (open_to mask values 16) i 0
  unfolding page11 sealed_page
  page_byte i h = get_or-set_other (open_to mask values 16) 511 i (sum_byte (open_to mask values 16)) 0 (λ e. omega arith)

  -- a kept row stands behind those before it
  pub page_row : (r j : ℕ) → r < 16 → kept mask r ≡ true → j < 6 → get_or page (4 + L r + j) 0 ≡ get_or (row_bytes (id_of r) (get_or values r 0)) j 0
  page_row r j h e k =
      let s = rows_short mask values 16 in
      let p = rows_prefix 16 (suc r) h in
      let l = length_kept mask values r e in
      let a : 4 + L r + j ≡ 4 + (L r + j) = omega arith in
      rw a
      (page_byte (4 + (L r + j)) (omega arith) ∙ open_row (L r + j) (omega arith) ∙ p.1 (L r + j) (omega arith)
      ∙ ap (λ (x : List ℕ). get_or x (L r + j) 0) (rows_kept mask values r e)
      ∙ get_or-append-add (rows_to mask values r) (row_bytes (id_of r) (get_or values r 0)) j 0)

  pub page_length : length page ≡ 512
  unfolding page11 sealed_page
  page_length = length-set (open_to mask values 16) 511 (sum_byte (open_to mask values 16)) ∙ length_open mask values 16 (omega arith)

  pub page_sum : sum256 page ≡ 0
  unfolding page11
  page_sum =
      let s = rows_short mask values 16 in
      sum_sealed (open_to mask values 16) (length_open mask values 16 (omega arith)) (open_zero 507 (omega arith) (omega arith))

  -- behind the last row stand zeros
  pub page_zero : (i : ℕ) → L 16 ≤ i → i < 507 → get_or page (4 + i) 0 ≡ 0
  page_zero i h k = page_byte (4 + i) (omega arith) ∙ open_zero i h (omega arith)
