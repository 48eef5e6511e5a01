-- Page 11h as it is filled, kept row by kept row, in place.
use Rattle.std.proofs.Common.{◌≡◌, refl, ap, ap₂, sym, ◌∙◌, Bool, true, false, List, [], ◌∷◌, ◌++◌, append_assoc, append-nil, ℕ, zero, suc, ◌+◌, ◌*◌, ◌-◌, ◌<◌, ◌≤◌, le_of_eq, add-one, arith, length, get_or, replicate, take, drop, length-append, drop_of_length-le, take_all, take_at, drop_at, Bor, length-take-le}
use lib.ListN.{length-replicate}
use Rattle.std.specs.List.{All, enumerate_from, zip, filter, flat_map}
use Rattle.std.specs.Fn.{CalledAt}
use Rattle.std.specs.Iterator.Adapters.{zip_first, zip_second, enumerate_source, enumerate_count, enumerate_steps, filter_source, filter_callee, filter_steps}
use Rattle.std.specs.Slice.Iter.{iter_rest}
use Rattle.std.specs.declared.iter.Enumerate.{Enumerate}
use Rattle.std.specs.declared.iter.Filter.{Filter}
use Rattle.std.specs.declared.iter.Zip.{Zip}
use Rattle.std.specs.declared.slice.Iter.{Iter}
use Rattle.std.proofs.iter.Yields.{fronts}
use Rattle.std.proofs.lemmas.Iterator.{YieldsList, YieldsList-from_slice, YieldsList-from_zip, zips}
use Rattle.std.proofs.lemmas.Iterator.Consumers.{YieldsList-from_enumerate, YieldsList-from_filter}
use denote.Param.Members.{Mut}
use Rattle.std.proofs.lemmas.Grind.{flat_map-append}
use Rattle.std.proofs.lemmas.List.{take_more, drop-replicate}
use Rattle.std.proofs.lemmas.List.Elements.{filter-append, All-from_get_or, All-get_or, All-filter}
use Rattle.std.proofs.lemmas.List.Sums.{length-filter, count_by-le-length}
use Rattle.counters.proofs.RowLaws.{id_small}
use Rattle.std.proofs.lemmas.List.FromFn.{length-enumerate_from, get_or-enumerate_from}
use Rattle.std.proofs.lemmas.Slice.Zip.{length-zip, get_or-zip}
use Rattle.bits.specs.Pick.{pick}
use borrow.Rule.Slice.PartMut.{mid_of, put_mid}
use Rattle.bits.specs.Laid.{overlay_with_room}
use Rattle.bits.proofs.Fronts.{over_yes}
use Rattle.counters.specs.Rows.{ids, id_of, kept}
use Rattle.pages.specs.Sum.{sealed_page}
use Rattle.pages.specs.Layout11.{row_bytes, rows_to, open_to, page11}

pub length_row : (id v : ℕ) → length (row_bytes id v) ≡ 6
unfolding row_bytes
length_row id v = refl

module _ (mask : ℕ) (values : List ℕ) (n : ℕ) where
  pub rows_kept : kept mask n ≡ true → rows_to mask values (suc n) ≡ rows_to mask values n ++ row_bytes (id_of n) (get_or values n 0)
  unfolding rows_to
  rows_kept e = grind arith

  pub rows_skip : kept mask n ≡ false → rows_to mask values (suc n) ≡ rows_to mask values n
  unfolding rows_to
  rows_skip e = grind (arith, append-nil (rows_to mask values n))

  pub length_kept : kept mask n ≡ true → length (rows_to mask values (suc n)) ≡ length (rows_to mask values n) + 6
  length_kept e = rw (rows_kept e, length-append, length_row)

  pub length_skip : kept mask n ≡ false → length (rows_to mask values (suc n)) ≡ length (rows_to mask values n)
  length_skip e = ap length (rows_skip e)

pub rows_short : (mask : ℕ) (values : List ℕ) (n : ℕ) → length (rows_to mask values n) ≤ 6 * n
unfolding rows_to
rows_short mask values zero = omega arith
rows_short mask values (suc n) =
    let ih = rows_short mask values n in
    grind (arith, ih, length_kept mask values n, length_skip mask values n)

-- ---- bytes laid into zeros

-- b laid over the front of the zeros behind h
pub lay_zeros : (h b : List ℕ) (at m : ℕ) → length h ≡ at → length b ≤ m
    → put_mid at m (h ++ replicate m 0) (overlay_with_room b (mid_of at m (h ++ replicate m 0))) ≡ (h ++ b) ++ replicate (m - length b) 0
lay_zeros h b at m e r =
    let z = length-replicate {A = ℕ} m 0 in
    let t : take at (h ++ replicate m 0) ≡ h = take_at h (replicate m 0) at e in
    let d : drop at (h ++ replicate m 0) ≡ replicate m 0 = drop_at h (replicate m 0) at e in
    let mid : mid_of at m (h ++ replicate m 0) ≡ replicate m 0 = ap (take m) d ∙ take_all m (replicate m 0) (le_of_eq z) in
    let post : drop m (drop at (h ++ replicate m 0)) ≡ [] = ap (drop m) d ∙ drop_of_length-le (replicate {A = ℕ} m 0) (le_of_eq z) in
    let o : overlay_with_room b (mid_of at m (h ++ replicate m 0)) ≡ b ++ replicate (m - length b) 0 =
    ap (overlay_with_room b) mid ∙ over_yes b (replicate m 0) (omega arith) ∙ ap (λ (l : List ℕ). b ++ l) (drop-replicate (length b) m 0) in
    ap₂ (λ (x y : List ℕ). x ++ y) t (ap₂ (λ (x y : List ℕ). x ++ y) o post ∙ append-nil (b ++ replicate (m - length b) 0))
    ∙ sym (append_assoc h b (replicate (m - length b) 0))

-- ---- the kept rows, which the loop goes over

-- a row's place, and its identifier and value
abbrev pub Row : Type 0
Row = ℕ × (ℕ × ℕ)

abbrev pub is_kept : ℕ → Row → Bool
is_kept mask row = kept mask row.0

abbrev pub bytes_in : Row → List ℕ
bytes_in row = row_bytes row.1.0 row.1.1

abbrev pub all_rows : List ℕ → List Row
all_rows values = enumerate_from 0 (zip ids values)

abbrev pub kept_rows : ℕ → List ℕ → List Row
kept_rows mask values = filter (is_kept mask) (all_rows values)

abbrev no_row : Row
no_row = (0, (0, 0))

-- what the loop is given: each kept row with its place among them
abbrev pub placed_rows : ℕ → List ℕ → List (ℕ × Row)
placed_rows mask values = enumerate_from 0 (kept_rows mask values)

-- an item as the loop has it, behind references
abbrev item_of : ℕ × (ℕ × (Bor ℕ × Bor ℕ)) → ℕ × Row
item_of item = (item.0, (item.1.0, (item.1.1.0.now, item.1.1.1.now)))

-- the loop is given these, where its iterator is the one of the code
pub gives_kept : {F : Type 0} (g : Mut F (Bor (ℕ × (Bor ℕ × Bor ℕ)) × Unit {0}) Bool) (mask : ℕ) (values : List ℕ) {f : F} {s : Enumerate (Filter (Enumerate (Zip (Iter ℕ) (Iter ℕ))) F)} (w : Filter (Enumerate (Zip (Iter ℕ) (Iter ℕ))) F)
    → enumerate_count s ≡ 0 → enumerate_source s ≡ w → filter_callee w ≡ f → enumerate_count (filter_source (enumerate_source s)) ≡ 0
    → iter_rest (zip_first (enumerate_source (filter_source (enumerate_source s)))) ≡ ids → iter_rest (zip_second (enumerate_source (filter_source (enumerate_source s)))) ≡ values
    → ((x : ℕ × (Bor ℕ × Bor ℕ)) (b : Bool) (q : F) → CalledAt g f x b q → (q ≡ f) × (b ≡ kept mask x.0))
    → YieldsList (enumerate_steps (filter_steps (enumerate_steps (zips fronts fronts)) g)) item_of s (placed_rows mask values)
gives_kept g mask values w outer source callee inner first second closure =
    YieldsList-from_enumerate
    (YieldsList-from_filter g (is_kept mask) (YieldsList-from_enumerate (YieldsList-from_zip (YieldsList-from_slice ids first) (YieldsList-from_slice values second)) inner) (ap filter_callee source ∙ callee) closure)
    outer

-- the n-th item is the n-th kept row, with n
pub record IsPlaced (mask : ℕ) (values : List ℕ) (n : ℕ) (item : ℕ × Row) : Type 0 where
  pub kept : n < length (kept_rows mask values)
  pub place : item.0 ≡ n
  pub row : item.1 ≡ get_or (kept_rows mask values) n item.1

pub placed : (mask : ℕ) (values : List ℕ) (n : ℕ) (item : ℕ × Row) → (n < length (placed_rows mask values)) × (item ≡ get_or (placed_rows mask values) n item) → IsPlaced mask values n item
placed mask values n item t =
    let k : n < length (kept_rows mask values) = rw (length-enumerate_from 0 (kept_rows mask values)) at t.0 in
    let e : item ≡ (0 + n, get_or (kept_rows mask values) n item.1) = t.1 ∙ get_or-enumerate_from 0 (kept_rows mask values) n item k in
    let z : 0 + n ≡ n = omega arith in
    record { kept = k; place = ap (λ (p : ℕ × Row). p.0) e ∙ z; row = ap (λ (p : ℕ × Row). p.1) e }

-- the bytes of the first n of them
abbrev pub kept_to : ℕ → List ℕ → ℕ → List ℕ
kept_to mask values n = flat_map bytes_in (take n (kept_rows mask values))

-- a page on which these bytes stand
abbrev pub laid_out : List ℕ → List ℕ
laid_out rows = (replicate 4 0 ++ rows) ++ replicate (508 - length rows) 0

pub length_open : (mask : ℕ) (values : List ℕ) (n : ℕ) → n ≤ 16 → length (open_to mask values n) ≡ 512
unfolding open_to
length_open mask values n h =
    let s = rows_short mask values n in
    simp (length-append, length-replicate) (omega arith)

length_bytes : (rows : List Row) → length (flat_map bytes_in rows) ≡ 6 * length rows
length_bytes [] = refl
length_bytes (row ∷ rows) =
    let h = length-append (bytes_in row) (flat_map bytes_in rows) in
    omega (arith, length_bytes rows, length_row row.1.0 row.1.1)

module _ (mask : ℕ) (values : List ℕ) (l : length values ≡ 16) where
  length_all : length (all_rows values) ≡ 16
  unfolding ids
  length_all = length-enumerate_from 0 (zip ids values) ∙ length-zip ids values ∙ rw l refl

  pub kept_most : length (kept_rows mask values) ≤ 16
  kept_most = omega (arith, length-filter (is_kept mask) (all_rows values), count_by-le-length (is_kept mask) (all_rows values), length_all)

  all_at : (n : ℕ) → n < 16 → get_or (all_rows values) n no_row ≡ (n, (id_of n, get_or values n 0))
  unfolding ids
  all_at n h =
      let z : 0 + n ≡ n = omega arith in
      rw z at (get_or-enumerate_from 0 (zip ids values) n no_row (rw (length-zip ids values, l) h)) ∙ ap (λ (p : ℕ × ℕ). (n, p)) (get_or-zip ids values n (0, 0) h (rw l h))

  all_small : All (λ row. row.1.0 < 4096) (all_rows values)
  all_small = All-from_get_or (λ row. row.1.0 < 4096) (all_rows values) no_row (λ i h. let k : i < 16 = omega (arith, length_all) in rw (all_at i k) (id_small i k))

  -- the identifier of a kept row has 12 bits
  pub kept_small : (n : ℕ) (row : Row) → n < length (kept_rows mask values) → row ≡ get_or (kept_rows mask values) n row → row.1.0 < 4096
  kept_small n row k e = rw e (All-get_or (λ row. row.1.0 < 4096) (kept_rows mask values) n row k (All-filter (is_kept mask) (λ row. row.1.0 < 4096) (all_rows values) all_small))

  one_row : (row : Row) → flat_map bytes_in (filter (is_kept mask) (row ∷ [])) ≡ pick (kept mask row.0) (bytes_in row) []
  one_row row = grind (arith, append-nil (bytes_in row))

  kept_first : (n : ℕ) → n ≤ 16 → flat_map bytes_in (filter (is_kept mask) (take n (all_rows values))) ≡ rows_to mask values n
  unfolding rows_to
  kept_first zero h = refl
  kept_first (suc n) h =
      let t : take (suc n) (all_rows values) ≡ take n (all_rows values) ++ (n, (id_of n, get_or values n 0)) ∷ [] = rw (add-one n) at (take_more (all_rows values) n no_row (rw length_all (omega arith)) ∙ ap (λ row. take n (all_rows values) ++ row ∷ []) (all_at n (omega arith))) in
      rw (t, filter-append, flat_map-append, kept_first n (omega arith), one_row (n, (id_of n, get_or values n 0))) refl

  -- the bytes of all of them are the page's rows
  kept_all : flat_map bytes_in (kept_rows mask values) ≡ rows_to mask values 16
  kept_all = ap (λ rows. flat_map bytes_in (filter (is_kept mask) rows)) (sym (take_all 16 (all_rows values) (le_of_eq length_all))) ∙ kept_first 16 (omega arith)

  module _ (n : ℕ) (k : n < length (kept_rows mask values)) where
    length_kept_to : length (kept_to mask values n) ≡ 6 * n
    length_kept_to = length_bytes (take n (kept_rows mask values)) ∙ ap (λ i. 6 * i) (length-take-le n (kept_rows mask values) (omega arith))

    kept_more : (row : Row) → row ≡ get_or (kept_rows mask values) n row → kept_to mask values (n + 1) ≡ kept_to mask values n ++ bytes_in row
    kept_more row e =
        let t = take_more (kept_rows mask values) n row k in
        rw (t, flat_map-append, sym e) (ap (λ b. kept_to mask values n ++ b) (append-nil (bytes_in row)))

    -- a kept row laid behind those before it
    pub lay_row : (place : ℕ) → place ≡ n → (row : Row) → row ≡ get_or (kept_rows mask values) n row → (p b ys : List ℕ) → p ≡ laid_out (kept_to mask values n) → b ≡ bytes_in row
        → ys ≡ overlay_with_room b (mid_of (4 + 6 * place) (512 - (4 + 6 * place)) p) → put_mid (4 + 6 * place) (512 - (4 + 6 * place)) p ys ≡ laid_out (kept_to mask values (n + 1))
    lay_row place i row e p b ys f q y =
        let m = kept_most in
        let h = length_kept_to in
        let r = length_row row.1.0 row.1.1 in
        let g = kept_more row e in
        let before : 508 - length (kept_to mask values n) ≡ 512 - (4 + 6 * n) = omega arith in
        let after : 508 - length (kept_to mask values n ++ bytes_in row) ≡ 512 - (4 + 6 * n) - length (bytes_in row) = omega (arith, length-append (kept_to mask values n) (bytes_in row)) in
        rw (y, q, f, i, before, g, after)
        (lay_zeros (replicate 4 0 ++ kept_to mask values n) (bytes_in row) (4 + 6 * n) (512 - (4 + 6 * n)) (omega (arith, length-append (replicate 4 0) (kept_to mask values n))) (omega arith)
        ∙ ap (λ (l : List ℕ). l ++ replicate (512 - (4 + 6 * n) - length (bytes_in row)) 0) (append_assoc (replicate 4 0) (kept_to mask values n) (bytes_in row)))

  -- all are laid, and the sum byte behind them
  pub laid_all : (p : List ℕ) (n : ℕ) → p ≡ laid_out (kept_to mask values n) → n ≡ length (kept_rows mask values) → sealed_page p ≡ page11 mask values
  unfolding page11 open_to
  laid_all p n f e =
      let w : kept_to mask values n ≡ rows_to mask values 16 = ap (flat_map bytes_in) (take_all n (kept_rows mask values) (le_of_eq (sym e))) ∙ kept_all in
      rw (f, w) refl
