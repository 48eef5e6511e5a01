-- The round trip of page 11h: of every number 1 to 4095, a kept row's value is read, and any other number is absent.
use Rattle.std.proofs.Common.{Option, Some, None, Ok, ◌≡◌, refl, ap, sym, ◌∙◌, Bool, true, false, ◌&&◌, ⊎_elim, List, ℕ, zero, suc, ◌+◌, ◌^◌, ◌<◌, ◌≤◌, arith, ne_eqb, eqb-true, eqb, get_or}
use borrow.Author.Tests.{lt-leb, eqb-false}
use Rattle.bits.specs.Pick.{pick}
use Rattle.bits.proofs.Picks.{pick_yes, pick_no, tested}
use Rattle.counters.specs.Rows.{id_of, kept, row_of}
use Rattle.pages.specs.Entries.{counter_entry, entry_at, width_of, number_in, vendor_of}
use Rattle.pages.specs.Read11.{row_value, read_counter}
use Rattle.pages.specs.WalkStep.{faulty, walk_entry, step_at}
use Rattle.pages.specs.Layout11.{rows_to, page11}
use Rattle.pages.specs.declared.value.CounterValue.{CounterValue}
use Rattle.counters.proofs.RowLaws.{id_small, id_positive, id_other, row_only, row_missing}
use Rattle.pages.proofs.Walking.{ends, step_end, step_entry, from_here, turn_here, reads_walk}
use Rattle.pages.proofs.Filling.{length_kept, length_skip, rows_short}
use Rattle.pages.proofs.Bytes11.{L, page_length, page_sum}
use Rattle.pages.proofs.Places11.{page_id, page_value, page_end}

-- ---- a row as it is written is a row as it is read

-- 2000h + identifier: a width of 2, no vendor's, and the identifier as its number
width_row : (id : ℕ) → id < 4096 → width_of (8192 + id) ≡ 2
width_row id h = omega arith

pub number_row : (id : ℕ) → id < 4096 → number_in (8192 + id) ≡ id
number_row id h = omega arith

pub vendor_row : (id : ℕ) → id < 4096 → vendor_of (8192 + id) ≡ false
vendor_row id h = grind arith

faulty_row : (a id : ℕ) → a ≤ 502 → 0 < id → id < 4096 → faulty (counter_entry a (8192 + id)) ≡ false
faulty_row a id h p q = grind arith

module _ (mask : ℕ) (values : List ℕ) where
  abbrev page : List ℕ
  page = page11 mask values

  -- where the rows behind the first n begin
  abbrev pub behind : ℕ → ℕ
  behind n = 4 + L mask values n

  pub page_step : (r : ℕ) → r < 16 → kept mask r ≡ true → step_at page (behind r) ≡ Some (Ok (walk_entry (8192 + id_of r) (behind r + 2) 4))
  page_step r h e =
      let s = rows_short mask values r in
      let i = page_id mask values r h e in
      let a : ends page (behind r) ≡ false = simp (lt-leb 508 (behind r) (omega arith), i, ne_eqb (8192 + id_of r) 0 (λ e. omega arith)) in
      let f : faulty (entry_at page (behind r)) ≡ false = rw i (faulty_row (behind r) (id_of r) (omega arith) (id_positive r h) (id_small r h)) in
      step_entry page (behind r) a f ∙ simp (i, width_row (id_of r) (id_small r h))

  pub page_stop : step_at page (behind 16) ≡ None
  page_stop =
      let s = rows_short mask values 16 in
      let a : ends page (behind 16) ≡ true = simp (lt-leb 508 (behind 16) (omega arith), page_end mask values) in
      step_end page (behind 16) a

  module _ (small : (k : ℕ) → get_or values k 0 < 2 ^ 32) (number : ℕ) where
    -- what the walk has found once it has passed the first n rows
    unfoldable found_to : ℕ → Option CounterValue
    found_to zero = None
    found_to (suc n) = pick (kept mask n && eqb (id_of n) number) (Some (row_value (get_or values n 0))) (found_to n)

    found_skip : (n : ℕ) → (kept mask n && eqb (id_of n) number) ≡ false → found_to (suc n) ≡ found_to n
    unfolding found_to
    found_skip n f = pick_no (kept mask n && eqb (id_of n) number) (Some (row_value (get_or values n 0))) (found_to n) f

    found_hit : (n : ℕ) → (kept mask n && eqb (id_of n) number) ≡ true → found_to (suc n) ≡ Some (row_value (get_or values n 0))
    unfolding found_to
    found_hit n t = pick_yes (kept mask n && eqb (id_of n) number) (Some (row_value (get_or values n 0))) (found_to n) t

    and_no : (a b : Bool) → b ≡ false → (a && b) ≡ false
    and_no a b e = grind arith

    -- no row of this number so far
    found_none : (n : ℕ) → ((k : ℕ) → k < n → id_of k ≡ number → ⊥) → found_to n ≡ None
    unfolding found_to
    found_none zero d = refl
    found_none (suc n) d =
        found_skip n (and_no (kept mask n) (eqb (id_of n) number) (ne_eqb (id_of n) number (d n (omega arith))))
        ∙ found_none n (λ k h. d k (omega arith))

    found_before : (k : ℕ) → k < 16 → id_of k ≡ number → found_to k ≡ None
    found_before k h e = found_none k (λ j l s. id_other j k (omega arith) h (λ q. omega arith) (s ∙ sym e))

    found_after : (k n : ℕ) → k < n → n ≤ 16 → id_of k ≡ number → found_to n ≡ pick (kept mask k) (Some (row_value (get_or values k 0))) None
    unfolding found_to
    found_after k zero h l e = absurd (omega arith)
    found_after k (suc n) h l e =
        ⊎_elim
        (λ (t : eqb n k ≡ true).
        let s : n ≡ k = eqb-true n k t in
        rw s (grind (arith, e, found_before k (omega arith) e)))
        (λ (f : eqb n k ≡ false).
        let o = eqb-false n k f in
        let q = ne_eqb (id_of n) number (λ s. id_other n k (omega arith) (omega arith) o (s ∙ sym e)) in
        found_skip n (and_no (kept mask n) (eqb (id_of n) number) q) ∙ found_after k n (omega arith) (omega arith) e)
        (tested (eqb n k))

    -- a step at a kept row
    page_turn : (n : ℕ) → n < 16 → kept mask n ≡ true → from_here page number (behind n) (found_to n) ≡ from_here page number (behind (suc n)) (found_to (suc n))
    page_turn n h e =
        let l = length_kept mask values n e in
        let a : behind n + 2 + 4 ≡ behind (suc n) = omega arith in
        let m = number_row (id_of n) (id_small n h) in
        let v = vendor_row (id_of n) (id_small n h) in
        turn_here page number (behind n) (found_to n)
        ∙ rw (page_step n h e)
        (⊎_elim
        (λ (t : eqb (id_of n) number ≡ true).
        let b : found_to n ≡ None = found_before n h (eqb-true (id_of n) number t) in
        let g : found_to (suc n) ≡ Some (row_value (get_or values n 0)) = found_hit n (simp (e, t)) in
        simp (v, m, t, b, g, page_value mask values n h e (small n), a))
        (λ (f : eqb (id_of n) number ≡ false).
        let g : found_to (suc n) ≡ found_to n = found_skip n (simp (e, f)) in
        simp (v, m, f, g, a))
        (tested (eqb (id_of n) number)))

    -- one row further on
    page_more : (n : ℕ) → n < 16 → from_here page number (behind n) (found_to n) ≡ from_here page number (behind (suc n)) (found_to (suc n))
    page_more n h = grind (arith, page_turn n h, length_skip mask values n, found_skip n)

    -- the walk as far as the first n rows
    page_walk : (n : ℕ) → n ≤ 16 → from_here page number 4 None ≡ from_here page number (behind n) (found_to n)
    unfolding found_to rows_to
    page_walk zero m = refl
    page_walk (suc n) m = page_walk n (omega arith) ∙ page_more n m

    page_done : from_here page number (behind 16) (found_to 16) ≡ Ok (found_to 16)
    page_done = turn_here page number (behind 16) (found_to 16) ∙ rw page_stop

    page_reads : 0 < number → number < 4096 → read_counter page number ≡ Ok (found_to 16)
    page_reads p q = reads_walk page number (page_length mask values) p q (page_sum mask values) ∙ page_walk 16 (omega arith) ∙ page_done

    none_kept : ((k : ℕ) → k < 16 → id_of k ≡ number → kept mask k ≡ false) → (row : Option ℕ) → row_of number ≡ row → found_to 16 ≡ None
    none_kept d (Some k) e =
        let o = row_only number k e in
        found_after k 16 o.0 (omega arith) o.1 ∙ pick_no (kept mask k) (Some (row_value (get_or values k 0))) None (d k o.0 o.1)
    none_kept d None e = found_none 16 (λ k h s. row_missing number e k h s)

    -- a number that is no kept row's is absent
    pub unkept_absent : 0 < number → number < 4096 → ((k : ℕ) → k < 16 → id_of k ≡ number → kept mask k ≡ false) → read_counter page number ≡ Ok None
    unkept_absent p q d = page_reads p q ∙ ap (λ (c : Option CounterValue). Ok c) (none_kept d (row_of number) refl)

  -- a kept row's number gives its value, in four bytes
  pub kept_reads : ((k : ℕ) → get_or values k 0 < 2 ^ 32) → (k : ℕ) → k < 16 → kept mask k ≡ true → read_counter page (id_of k) ≡ Ok (Some (row_value (get_or values k 0)))
  kept_reads small k h e =
      page_reads small (id_of k) (id_positive k h) (id_small k h)
      ∙ ap (λ (c : Option CounterValue). Ok c)
      (found_after small (id_of k) k 16 h (omega arith) refl ∙ pick_yes (kept mask k) (Some (row_value (get_or values k 0))) None e)
