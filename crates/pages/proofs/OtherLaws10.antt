-- The other bytes of page 10h: how many there can be, and what holds where there are none.
use Rattle.std.proofs.Common.{Ok, ◌≡◌, refl, sym, ap, ◌∙◌, ℕ, suc, ◌+◌, ◌≤◌, List, [], ◌∷◌, length, get_or, set, drop, drop-cons, cond, arith, lit<, bit_and, eqb-true}
use borrow.Author.Tests.{not-false}
use Rattle.std.specs.List.{count_by, zip}
use Rattle.std.proofs.lemmas.List.Sums.{count_by-le-length, sum_by-cons}
use Rattle.std.proofs.lemmas.Slice.Zip.{length-zip}
use Rattle.bits.specs.Little.{Bytes}
use Rattle.frames.specs.Layout.{masks, bytes_of}
use Rattle.frames.specs.RoundTrip.{masked_from}
use Rattle.frames.proofs.LayoutLaws.{values_in, all_again}
use Rattle.frames.proofs.TripBack.{lba_low, lba_high}
use Rattle.refusals.specs.First.{first_of}
use Rattle.refusals.proofs.FirstLaws as firsts
use Rattle.refusals.proofs.FirstLaws.{unless_ok}
use Rattle.pages.specs.Sum.{sum256}
use Rattle.pages.specs.Page10.{log_layout, log_values, page10, nq_in, fields10, ladder10, read_log}
use Rattle.pages.specs.Others10.{has_other, others_in, count_other_bytes}
use Rattle.pages.specs.declared.page10.ErrorLog.{ErrorLog}
use Rattle.pages.proofs.Sealed.{sealed_again}
use Rattle.pages.proofs.Laws10.{first_again}

-- they are at most all
pub others_most : (page : List ℕ) → others_in page ≤ 512
others_most page =
    let named = masks (log_layout (nq_in page)) in
    let n : length named ≡ 512 = refl in
    omega (arith, n, count_by-le-length has_other (zip page named), length-zip page named)

-- where none is counted, what is named is all that stands there
none_first : (v m n : ℕ) → cond (has_other (v, m)) 1 0 + n ≡ 0 → (bit_and v m ≡ v) × (n ≡ 0)
none_first v m n z = grind arith

kept : (ms l : List ℕ) (at : ℕ) → at + length ms ≡ length l → count_by has_other (zip (drop at l) ms) ≡ 0 → masked_from at ms l ≡ drop at l
kept [] l at e z = refl
kept (m ∷ ms) l at e z =
    let d = drop-cons l at 0 (omega arith) in
    let w = rw (d, sum_by-cons (λ (x : ℕ × ℕ). cond (has_other x) 1 0) (get_or l at 0, m) (zip (drop (suc at) l) ms)) at z in
    let n = none_first (get_or l at 0) m (count_by has_other (zip (drop (suc at) l) ms)) w in
    rw (n.0, kept ms l (suc at) (omega arith) n.1) (sym d)

module _ (l : List ℕ) (bytes : Bytes l) where
  -- the values of what was read are those that stand there, but for the sum byte
  values : set (bytes_of (log_layout (nq_in l)) (log_values (fields10 l))) 511 (get_or l 511 0) ≡ bytes_of (log_layout (nq_in l)) (values_in (log_layout (nq_in l)) l 0)
  values = rw (first_again (get_or l 0 0) (bytes 0), lba_low l bytes, lba_high l bytes) refl

  -- the page of what was read of a page without other bytes is that page: its fields are all that it says
  pub fields_all : (f : ErrorLog) → read_log l ≡ Ok f → count_other_bytes l ≡ Ok 0 → page10 f ≡ l
  unfolding read_log count_other_bytes page10
  fields_all f r c =
      let u = unless_ok (first_of (ladder10 l)) (fields10 l) f (sym r) in
      let v = unless_ok (first_of (ladder10 l)) (others_in l) 0 (sym c) in
      let none = (firsts.first_exactly (ladder10 l) tt).none.0 u.0 in
      let n = eqb-true (length l) 512 (not-false _ (none 0 (lit< tt))) in
      let s = eqb-true (sum256 l) 0 (not-false _ (none 1 (lit< tt))) in
      let e = values ∙ all_again l bytes (log_layout (nq_in l)) n (kept (masks (log_layout (nq_in l))) l 0 (sym n) (sym v.1)) in
      ap page10 u.1 ∙ sealed_again (bytes_of (log_layout (nq_in l)) (log_values (fields10 l))) (get_or l 511 0) refl refl (bytes 511) (ap sum256 e ∙ s) ∙ e
