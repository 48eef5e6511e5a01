-- The entries that are none of the sixteen counters are just those that no row's number asks for.
use Rattle.std.proofs.Common.{◌≡◌, refl, sym, true, false, List, length, get_or, ℕ, ◌<◌, ◌≤◌, Option, Some, None, cond, arith, eq-eqb, ne_eqb}
use Rattle.std.specs.List.{count_by}
use Rattle.std.specs.Option.{is_none}
use Rattle.std.proofs.lemmas.List.Sums.{get_or-le-sum_by}
use Rattle.bits.proofs.Picks.{or_left, or_right}
use Rattle.counters.specs.Rows.{id_of, row_of}
use Rattle.counters.proofs.RowLaws.{row_only, row_missing}
use Rattle.pages.specs.Entries.{CounterEntry, number_in, vendor_of, entry_asked, entries}
use Rattle.pages.specs.Others11.{entry_other}
use Rattle.pages.proofs.Values.{no_entry}

-- a row's number asks for the entry
pub record IsRows (e : CounterEntry) : Type 0 where
  pub row : ℕ
  pub there : row < 16
  pub asked : entry_asked (id_of row) e ≡ true

module _ (e : CounterEntry) where
  row_asked : vendor_of e.id ≡ false → (r : Option ℕ) → row_of (number_in e.id) ≡ r → is_none r ≡ false → IsRows e
  row_asked v None q h = absurd (cc)
  row_asked v (Some row) q h =
      let o = row_only (number_in e.id) row q in
      record { row = row; there = o.0; asked = rw (v, eq-eqb (number_in e.id) (id_of row) (sym o.1)) refl }

  -- one that is no other
  pub other_asked : entry_other e ≡ false → IsRows e
  other_asked h = row_asked (or_left (vendor_of e.id) (is_none (row_of (number_in e.id))) h) (row_of (number_in e.id)) refl (or_right (vendor_of e.id) (is_none (row_of (number_in e.id))) h)

  none_asked : vendor_of e.id ≡ false → (r : Option ℕ) → row_of (number_in e.id) ≡ r → is_none r ≡ true → (row : ℕ) → row < 16 → entry_asked (id_of row) e ≡ false
  none_asked v (Some k) q h row b = absurd (cc)
  none_asked v None q h row b = rw (v, ne_eqb (number_in e.id) (id_of row) (λ s. row_missing (number_in e.id) q row b (sym s))) refl

  -- and one that is
  pub other_unasked : entry_other e ≡ true → (row : ℕ) → row < 16 → entry_asked (id_of row) e ≡ false
  other_unasked h row b =
      grind (arith, λ (v : vendor_of e.id ≡ false). none_asked v (row_of (number_in e.id)) refl)

none_counted : (es : List CounterEntry) → count_by entry_other es ≡ 0 → (i : ℕ) → i < length es → entry_other (get_or es i no_entry) ≡ false
none_counted es z i h =
    let s : cond (entry_other (get_or es i no_entry)) 1 0 ≤ count_by entry_other es = get_or-le-sum_by (λ (x : CounterEntry). cond (entry_other x) 1 0) es i no_entry h in
    grind (arith, s)

-- where a page has no others, each of its entries is asked for by a row's number
pub no_others : (page : List ℕ) → count_by entry_other (entries page) ≡ 0 → (i : ℕ) → i < length (entries page) → IsRows (get_or (entries page) i no_entry)
no_others page z i h = other_asked (get_or (entries page) i no_entry) (none_counted (entries page) z i h)
