-- A value is said to be at the top exactly where it is the largest of the entry that it was read from.
use Rattle.std.proofs.Common.{Some, None, Ok, ◌≡◌, ap, sym, ◌∙◌, true, false, ⊎_elim, List, [], ◌∷◌, ℕ, suc, ◌*◌, ◌-◌, ◌^◌, ◌<◌, ◌≤◌, min, suc-le-suc, zero-lt-suc, arith, ltb, lit<, length, get_or, ltb-false, eqb-true, eq-eqb}
use Rattle.std.specs.List.{list_any}
use Rattle.refusals.specs.First.{first_of, Iff}
use Rattle.refusals.proofs.FirstLaws as firsts
use Rattle.refusals.proofs.FirstLaws.{unless_ok}
use Rattle.bits.proofs.Picks.{tested, or_left, or_right}
use Rattle.pages.specs.Entries.{CounterEntry, width_of, bytes_in, wrong_width, entry_asked, entries}
use Rattle.pages.specs.Read11.{damaged, value_of, value_in, ladder11, read_counter}
use Rattle.pages.specs.Top.{top_of, at_top}
use Rattle.pages.specs.declared.value.CounterValue.{CounterValue}
use Rattle.pages.proofs.Values.{no_entry}

-- the entry of a list that a value was read from
pub record From (page : List ℕ) (number : ℕ) (es : List CounterEntry) (v : CounterValue) : Type 0 where
  pub entry : ℕ
  pub there : entry < length es
  pub hit : entry_asked number (get_or es entry no_entry) ≡ true
  pub value : v ≡ value_of page (get_or es entry no_entry)
  pub most : bytes_in (get_or es entry no_entry).id ≤ 8

from : (page : List ℕ) (number : ℕ) (es : List CounterEntry) (v : CounterValue) → list_any wrong_width es ≡ false → value_in page number es ≡ Some v → From page number es v
unfolding value_in
from page number [] v s e = absurd (let z : None ≡ Some v = e in cc)
from page number (x ∷ es) v s e =
    let w = or_left (wrong_width x) (list_any wrong_width es) s in
    ⊎_elim
    (λ (t : entry_asked number x ≡ true).
    let k : Some (value_of page x) ≡ Some v = rw t at e in
    let m : width_of x.id ≤ 4 = ltb-false 4 (width_of x.id) (or_right (ltb (width_of x.id) 1) (ltb 4 (width_of x.id)) w) in
    record {
      entry = 0;
      there = zero-lt-suc (length es);
      hit = t;
      value = cc;
      most = omega arith;
    })
    (λ (n : entry_asked number x ≡ false).
    let r = from page number es v (or_right (wrong_width x) (list_any wrong_width es) s) (rw n at e) in
    record {
      entry = suc r.entry;
      there = suc-le-suc r.there;
      hit = r.hit;
      value = r.value;
      most = r.most;
    })
    (tested (entry_asked number x))

-- a page that answers with a value has it in its entries, whose widths are all 1 to 4
answered : (page : List ℕ) (number : ℕ) (v : CounterValue) → read_counter page number ≡ Ok (Some v) → (list_any wrong_width (entries page) ≡ false) × (value_in page number (entries page) ≡ Some v)
unfolding read_counter damaged
answered page number v e =
    let es = entries page in
    let u = unless_ok (first_of (ladder11 page number)) (value_in page number es) (Some v) (sym e) in
    let d = (firsts.first_exactly (ladder11 page number) tt).none.0 u.0 3 (lit< tt) in
    (grind (arith, d), sym u.1)

-- a value at the top is the largest of the entry that it was read from
pub record Topped (page : List ℕ) (number : ℕ) (v : CounterValue) : Type 0 where
  pub from : From page number (entries page) v
  pub exactly : Iff (at_top v ≡ true) (v.value ≡ 2 ^ (8 * bytes_in (get_or (entries page) from.entry no_entry).id) - 1)

pub top_exactly : (page : List ℕ) (number : ℕ) (v : CounterValue) → read_counter page number ≡ Ok (Some v) → Topped page number v
unfolding at_top top_of
top_exactly page number v e =
    let a = answered page number v e in
    let f = from page number (entries page) v a.0 a.1 in
    let n = bytes_in (get_or (entries page) f.entry no_entry).id in
    let b : v.bytes ≡ n = ap (λ (x : CounterValue). x.bytes) f.value in
    let m : min v.bytes 8 ≡ n = omega (arith, f.most, b) in
    let top : top_of v.bytes ≡ 2 ^ (8 * n) - 1 = ap (λ (k : ℕ). 2 ^ (8 * k) - 1) m in
    record { from = f; exactly = (λ t. eqb-true v.value _ t ∙ top, λ k. eq-eqb v.value _ (k ∙ sym top)) }
