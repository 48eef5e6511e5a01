-- A change is a number of 64 bits, so that a field that reads `0` is 0.
use Rattle.std.proofs.Common.{◌≡◌, refl, ap, subst, ℕ, ◌+◌, ◌*◌, ◌<◌, ◌≤◌, ◌^◌, Bool, true, false, eqb, List, [], ◌∷◌, length, get_or, filter, Option, Some, None, Ok, arith, lit<, zero-lt-suc, suc-le-suc, suc, ⊎_elim, codes}
use Rattle.std.proofs.Math.Nat.{pow-le-pow_right}
use Rattle.std.specs.List.{last_or}
use Rattle.std.specs.Option.{option_map}
use Rattle.bits.specs.Little.{Bytes, le_at}
use Rattle.bits.proofs.Littles.{le_lt}
use Rattle.bits.proofs.Picks.{tested}
use Rattle.refusals.specs.First.{Iff}
use Rattle.pages.specs.Entries.{bytes_in, entries}
use Rattle.pages.specs.Read11.{read_counter}
use Rattle.pages.specs.declared.value.CounterValue.{CounterValue}
use Rattle.pages.proofs.Values.{no_entry}
use Rattle.pages.proofs.Largest.{top_exactly}
use Rattle.hourly_table.specs.Samples.{Sampled, page_of_hour}
use Rattle.hourly_table.specs.Changes.{change_in}
use Rattle.hourly_table.specs.Counted.{Counted, AllBytes}
use Rattle.hourly_table.specs.Rows.{field_text}
use Rattle.hourly_table.proofs.ChangeLaws.{change_exactly, zero_exactly}

-- the last that passes is one of the list
kept : (P : Sampled → Type 0) (p : Sampled → Bool) (o : Option Sampled) (xs : List Sampled) → ((x : Sampled) → o ≡ Some x → P x) → ((k : ℕ) (d : Sampled) → k < length xs → P (get_or xs k d))
    → (x : Sampled) → last_or o (filter p xs) ≡ Some x → P x
kept P p o [] first each x e = first x e
kept P p o (y ∷ ys) first each x e =
    ⊎_elim
    (λ (t : p y ≡ true).
    kept P p (Some y) ys (λ z s. subst P (let i : y ≡ z = cc in i) (each 0 y (zero-lt-suc (length ys)))) (λ k d h. each (suc k) d (suc-le-suc h)) x (rw t at e))
    (λ (f : p y ≡ false). kept P p o ys first (λ k d h. each (suc k) d (suc-le-suc h)) x (rw f at e))
    (tested (p y))

page_in : (o : Option Sampled) (page : List ℕ) → option_map (λ s. s.page) o ≡ Some page → ((x : Sampled) → o ≡ Some x → Bytes x.page) → Bytes page
page_in None page e each = absurd (let z : None ≡ Some page = e in cc)
page_in (Some s) page e each = subst Bytes (let z : Some s.page ≡ Some page = e in let i : s.page ≡ page = cc in i) (each s refl)

-- a page that stands is bytes
standing_bytes : (samples : List Sampled) → AllBytes samples → (hour : ℕ) (page : List ℕ) → page_of_hour samples hour ≡ Some page → Bytes page
unfolding page_of_hour
standing_bytes samples bytes hour page e =
    page_in (last_or None (filter (λ s. eqb s.hour hour) samples)) page e
    (kept (λ s. Bytes s.page) (λ s. eqb s.hour hour) None samples (λ x n. absurd (let z : None ≡ Some x = n in cc)) bytes)

le_small : (page : List ℕ) → Bytes page → (at n : ℕ) → n ≤ 8 → le_at page at n < 2 ^ 64
le_small page bytes at n h =
    let least = le_lt page bytes at n in
    let most : 2 ^ (8 * n) ≤ 2 ^ (8 * 8) = pow-le-pow_right (lit< tt) {i = 8 * n} {j = 8 * 8} (omega arith) in
    omega (arith, least, most)

-- and a value of such a page has 64 bits at most
value_small : (page : List ℕ) → Bytes page → (number : ℕ) (v : CounterValue) → read_counter page number ≡ Ok (Some v) → v.value < 2 ^ 64
value_small page bytes number v e =
    let t = top_exactly page number v e in
    let x = get_or (entries page) t.from.entry no_entry in
    let value : v.value ≡ le_at page (x.place + 2) (bytes_in x.id) = ap (λ (c : CounterValue). c.value) t.from.value in
    omega (arith, value, le_small page bytes (x.place + 2) (bytes_in x.id) t.from.most)

module _ (samples : List Sampled) (bytes : AllBytes samples) (hour number : ℕ) where
  pub change_small : (c : ℕ) → change_in samples hour number ≡ Some c → c < 2 ^ 64
  change_small c e =
      let k = (change_exactly samples hour number c).0 e in
      let v = value_small k.page_of_it (standing_bytes samples bytes hour k.page_of_it k.stands) number k.new k.new_read in
      omega (arith, v, k.more)

  -- a field is `0` exactly where a page stands for the hour and one for the hour before, both have the counter, below the top, and the same value
  pub never_zero : Iff (field_text (change_in samples hour number) ≡ codes "0") (Counted samples hour number 0)
  never_zero = zero_exactly samples hour number change_small
