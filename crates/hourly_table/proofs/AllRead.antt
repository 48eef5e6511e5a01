-- Where a table is given nothing was wrong: no page of it was refused, by itself or for a number asked, so that an empty field hides no refusal.
use Rattle.std.proofs.Common.{◌≡◌, refl, ℕ, ◌+◌, ◌<◌, ◌≤◌, Bool, false, not, eqb, length, get_or, List, [], ◌∷◌, zero, suc, is_err, Ok, lit<, not-suc-le-zero, le_of_suc-le-suc, ltb, ltb-false, arith}
use Rattle.std.specs.List.{list_any}
use Rattle.bits.proofs.Picks.{or_left, or_right}
use Rattle.refusals.specs.First.{first_of}
use Rattle.pages.specs.Entries.{entries}
use Rattle.pages.specs.Read11.{any_fault, damaged, no_number, read_counter}
use Rattle.pages.specs.Sum.{sum256}
use Rattle.pages.specs.Others11.{count_others}
use Rattle.hourly_table.specs.Samples.{Sampled}
use Rattle.hourly_table.specs.Refused.{wrong_length, wrong_sum, damaged_for, input_tests}
use Rattle.hourly_table.specs.Table.{table, table_size}
use Rattle.hourly_table.proofs.Firsts.{none_held}
use Rattle.hourly_table.proofs.Sizes.{given}
use Rattle.hourly_table.proofs.Sorted.{rising}

-- where none of a list passes, that at a place does not
pub none_at : {A : Type 0} (p : A → Bool) (xs : List A) → list_any p xs ≡ false → (k : ℕ) (d : A) → k < length xs → p (get_or xs k d) ≡ false
none_at p [] e k d h = absurd (not-suc-le-zero h)
none_at p (x ∷ xs) e zero d h = or_left (p x) (list_any p xs) e
none_at p (x ∷ xs) e (suc k) d h = none_at p xs (or_right (p x) (list_any p xs) e) k d (le_of_suc-le-suc h)

read_one : (page : List ℕ) (number : ℕ) → not (eqb (length page) 512) ≡ false → no_number number ≡ false → not (eqb (sum256 page) 0) ≡ false → damaged number (entries page) ≡ false
    → is_err (read_counter page number) ≡ false
unfolding read_counter first_of
read_one page number long known summed whole = rw (long, known, summed, whole) refl

pub all_read : (samples : List Sampled) (numbers : List ℕ) (room size : ℕ) → Ok size ≡ table_size samples numbers room
    → (i : ℕ) (s : Sampled) → i < length samples → (j : ℕ) → j < length numbers → is_err (read_counter (get_or samples i s).page (get_or numbers j 0)) ≡ false
all_read samples numbers room size e i s h j l =
    let none = none_held (input_tests samples numbers) (given samples numbers room size e).input in
    let whole = none_at (damaged_for numbers) samples (none 3 (lit< tt)) i s h in
    read_one (get_or samples i s).page (get_or numbers j 0) (none_at wrong_length samples (none 0 (lit< tt)) i s h) (none_at no_number numbers (none 1 (lit< tt)) j 0 l)
    (none_at wrong_sum samples (none 2 (lit< tt)) i s h)
    (none_at (λ n. damaged n (entries (get_or samples i s).page)) numbers (or_right (any_fault (entries (get_or samples i s).page)) (list_any (λ n. damaged n (entries (get_or samples i s).page)) numbers) whole) j 0 l)

-- a number that is one of a counter
in_range : (n : ℕ) → no_number n ≡ false → (1 ≤ n) × (n < 4096)
in_range n e =
    let low = ltb-false n 1 (or_left (ltb n 1) (ltb 4095 n) e) in
    let high = ltb-false 4095 n (or_right (ltb n 1) (ltb 4095 n) e) in
    (omega arith, omega arith)

whole_page : (page : List ℕ) → not (eqb (length page) 512) ≡ false → not (eqb (sum256 page) 0) ≡ false → any_fault (entries page) ≡ false → is_err (count_others page) ≡ false
unfolding count_others first_of
whole_page page long summed whole = rw (long, summed, whole) refl

module _ (samples : List Sampled) (numbers : List ℕ) (room size : ℕ) (e : Ok size ≡ table_size samples numbers room) where
  pub numbers_known : (j : ℕ) → j < length numbers → (1 ≤ get_or numbers j 0) × (get_or numbers j 0 < 4096)
  numbers_known j l =
      let none = none_held (input_tests samples numbers) (given samples numbers room size e).input in
      in_range (get_or numbers j 0) (none_at no_number numbers (none 1 (lit< tt)) j 0 l)

  pub pages_whole : (i : ℕ) (s : Sampled) → i < length samples → is_err (count_others (get_or samples i s).page) ≡ false
  pages_whole i s h =
      let none = none_held (input_tests samples numbers) (given samples numbers room size e).input in
      let page = (get_or samples i s).page in
      whole_page page (none_at wrong_length samples (none 0 (lit< tt)) i s h) (none_at wrong_sum samples (none 2 (lit< tt)) i s h)
      (or_left (any_fault (entries page)) (list_any (λ n. damaged n (entries page)) numbers) (none_at (damaged_for numbers) samples (none 3 (lit< tt)) i s h))

  pub hours_rise : (i : ℕ) (s : Sampled) → i + 1 < length samples → (get_or samples i s).hour ≤ (get_or samples (i + 1) s).hour
  hours_rise i s h = rising samples numbers (given samples numbers room size e).input i (i + 1) s (omega arith) h

  pub room_enough : length (table samples numbers) ≤ room
  room_enough = (given samples numbers room size e).room_for

  pub size_told : size ≡ length (table samples numbers)
  size_told = (given samples numbers room size e).whole
