-- What the library's reader reads of rows, one behind the other.
use Rattle.std.proofs.Common.{◌≡◌, refl, ap, ◌∙◌, subst, ℕ, zero, suc, ◌+◌, ◌*◌, ◌<◌, ◌≤◌, ◌^◌, Bool, false, ◌==◌, List, [], ◌∷◌, ◌++◌, length, get_or, map, Option, Some, None, arith, append_assoc, length-append, decimal, ◌||◌, zero-lt-suc, suc-le-suc}
use Rattle.std.proofs.lemmas.Fmt.{decimal_nonempty}
use Rattle.bits.proofs.Picks.{or_left, or_right}
use Rattle.std.specs.List.{list_any, flat_map}
use Rattle.csv.specs.Machine.{next_record}
use Rattle.csv.specs.Reading.{default_config, records_from}
use Rattle.csv.specs.Writing.{default_writer, needs_byte, field_text}
use Rattle.csv.specs.declared.parser.State.TheVariants as st
use Rattle.csv.proofs.RoundTrip.{record-same, field-run}
use Rattle.hourly_table.specs.Rows.{hex_number}
use Rattle.hourly_table.specs.Rows.{row_text, field_text as change_text}
use Rattle.hourly_promises.specs.Csv.{fields_of}
use Rattle.hourly_promises.proofs.Parts.{row_parts}
use Rattle.hourly_promises.proofs.Plain.{hour_plain, number_plain, change_plain}

-- a field that needs no quotes, up to the byte behind it
plain_field : (fields : List (List ℕ)) (x : List ℕ) (c : ℕ) (tail : List ℕ) → (c == 34) ≡ false → list_any (needs_byte default_writer) x ≡ false
    → next_record default_config st.StartField fields [] (x ++ (c ∷ tail)) ≡ next_record default_config st.InField fields x (c ∷ tail)
plain_field fields x c tail q p =
    let same : field_text default_writer x ≡ x = rw p refl in
    subst (λ (t : List ℕ). next_record default_config st.StartField fields [] (t ++ (c ∷ tail)) ≡ next_record default_config st.InField fields x (c ∷ tail)) same (field-run fields x c tail q)

comma_next : (fields : List (List ℕ)) (x u : List ℕ) → next_record default_config st.InField fields x (44 ∷ u) ≡ next_record default_config st.StartField (fields ++ (x ∷ [])) [] u
unfolding next_record
comma_next fields x u = refl

line_ends : (fields : List (List ℕ)) (x tail : List ℕ) → next_record default_config st.InField fields x (13 ∷ 10 ∷ tail) ≡ Some (fields ++ (x ∷ []), st.AfterCr, 10 ∷ tail)
unfolding next_record
line_ends fields x tail = refl

-- three fields, of which the first is not empty
three : (b : ℕ) (bs y z tail : List ℕ) → (b == 13) ≡ false → (b == 10) ≡ false → list_any (needs_byte default_writer) (b ∷ bs) ≡ false → list_any (needs_byte default_writer) y ≡ false → list_any (needs_byte default_writer) z ≡ false
    → next_record default_config st.StartRecord [] [] ((b ∷ bs) ++ (44 ∷ (y ++ (44 ∷ (z ++ (13 ∷ 10 ∷ tail)))))) ≡ Some ((b ∷ bs) ∷ y ∷ z ∷ [], st.AfterCr, 10 ∷ tail)
three b bs y z tail r n p q s =
    record-same [] [] b (bs ++ (44 ∷ (y ++ (44 ∷ (z ++ (13 ∷ 10 ∷ tail)))))) r n
    ∙ plain_field [] (b ∷ bs) 44 (y ++ (44 ∷ (z ++ (13 ∷ 10 ∷ tail)))) refl p
    ∙ comma_next [] (b ∷ bs) (y ++ (44 ∷ (z ++ (13 ∷ 10 ∷ tail))))
    ∙ plain_field ((b ∷ bs) ∷ []) y 44 (z ++ (13 ∷ 10 ∷ tail)) refl q
    ∙ comma_next ((b ∷ bs) ∷ []) y (z ++ (13 ∷ 10 ∷ tail))
    ∙ plain_field ((b ∷ bs) ∷ y ∷ []) z 13 (10 ∷ tail) refl s
    ∙ line_ends ((b ∷ bs) ∷ y ∷ []) z tail

marks_of : (a q r n e i : Bool) → (((a || q) || (r || n)) || e) || i ≡ false → (r ≡ false) × (n ≡ false)
marks_of a q r n e i p =
    let marks = or_right (a || q) (r || n) (or_left ((a || q) || (r || n)) e (or_left (((a || q) || (r || n)) || e) i p)) in
    (or_left r n marks, or_right r n marks)

pub three_of : (x y z tail : List ℕ) → 0 < length x → list_any (needs_byte default_writer) x ≡ false → list_any (needs_byte default_writer) y ≡ false → list_any (needs_byte default_writer) z ≡ false
    → next_record default_config st.StartRecord [] [] (x ++ (44 ∷ (y ++ (44 ∷ (z ++ (13 ∷ 10 ∷ tail)))))) ≡ Some (x ∷ y ∷ z ∷ [], st.AfterCr, 10 ∷ tail)
three_of [] y z tail h p q s = absurd (omega arith)
three_of (b ∷ bs) y z tail h p q s =
    let m = marks_of (b == 44) (b == 34) (b == 13) (b == 10) false false (or_left (needs_byte default_writer b) (list_any (needs_byte default_writer) bs) p) in
    three b bs y z tail m.0 m.1 p q s

-- behind CR the reader takes LF, and then a record
after_cr : (text : List ℕ) → next_record default_config st.AfterCr [] [] (10 ∷ text) ≡ next_record default_config st.StartRecord [] [] text
unfolding next_record
after_cr text = refl

nothing_more : next_record default_config st.AfterCr [] [] (10 ∷ []) ≡ None
unfolding next_record
nothing_more = refl

-- a change that is told has 64 bits at most
abbrev pub Small : Option ℕ → Type 0
Small change = (c : ℕ) → change ≡ Some c → c < 2 ^ 64

row_record : (hour number : ℕ) (change : Option ℕ) (tail : List ℕ) → hour < 2 ^ 64 → Small change
    → next_record default_config st.StartRecord [] [] (row_text hour number change ++ tail) ≡ Some (fields_of hour number change, st.AfterCr, 10 ∷ tail)
row_record hour number change tail h small =
    let parts : row_text hour number change ++ tail ≡ decimal hour ++ (44 ∷ (hex_number number ++ (44 ∷ (change_text change ++ (13 ∷ 10 ∷ tail))))) = simp (row_parts hour number change, append_assoc) in
    rw parts (three_of (decimal hour) (hex_number number) (change_text change) tail (decimal_nonempty hour h) (hour_plain hour h) (number_plain number) (change_plain change small))

-- one row more
row_read : (m hour number : ℕ) (change : Option ℕ) (tail : List ℕ) → hour < 2 ^ 64 → Small change
    → records_from default_config (suc m) st.AfterCr (10 ∷ (row_text hour number change ++ tail)) ≡ fields_of hour number change ∷ records_from default_config m st.AfterCr (10 ∷ tail)
unfolding records_from
row_read m hour number change tail h small = rw (after_cr (row_text hour number change ++ tail), row_record hour number change tail h small) refl

none_read : (m : ℕ) → records_from default_config m st.AfterCr (10 ∷ []) ≡ []
unfolding records_from
none_read zero = refl
none_read (suc m) = rw nothing_more refl

module _ (change : ℕ → ℕ → Option ℕ) (small : (hour number : ℕ) → Small (change hour number)) where
  abbrev rows : List ℕ → ℕ → List ℕ
  rows numbers hour = flat_map (λ number. row_text hour number (change hour number)) numbers

  abbrev fields : List ℕ → ℕ → List (List (List ℕ))
  fields numbers hour = map (λ number. fields_of hour number (change hour number)) numbers

  -- the rows of an hour
  hour_read : (m hour : ℕ) (numbers tail : List ℕ) → hour < 2 ^ 64
      → records_from default_config (length numbers + m) st.AfterCr (10 ∷ (rows numbers hour ++ tail)) ≡ fields numbers hour ++ records_from default_config m st.AfterCr (10 ∷ tail)
  hour_read m hour [] tail h = ap (λ k. records_from default_config k st.AfterCr (10 ∷ tail)) (omega arith)
  hour_read m hour (n ∷ ns) tail h =
      let fuel : suc (length ns) + m ≡ suc (length ns + m) = omega arith in
      rw (fuel, append_assoc (row_text hour n (change hour n)) (rows ns hour) tail)
      (row_read (length ns + m) hour n (change hour n) (rows ns hour ++ tail) h (small hour n) ∙ ap (λ l. fields_of hour n (change hour n) ∷ l) (hour_read m hour ns tail h))

  -- and of all
  pub hours_read : (m : ℕ) (hours numbers : List ℕ) → ((k : ℕ) (d : ℕ) → k < length hours → get_or hours k d < 2 ^ 64)
      → records_from default_config (length hours * length numbers + m) st.AfterCr (10 ∷ flat_map (rows numbers) hours) ≡ flat_map (fields numbers) hours
  hours_read m [] numbers h = none_read (0 * length numbers + m)
  hours_read m (x ∷ xs) numbers h =
      let fuel : suc (length xs) * length numbers + m ≡ length numbers + (length xs * length numbers + m) = omega arith in
      rw fuel
      (hour_read (length xs * length numbers + m) x numbers (flat_map (rows numbers) xs) (h 0 0 (zero-lt-suc (length xs)))
      ∙ ap (λ l. fields numbers x ++ l) (hours_read m xs numbers (λ k d l. h (suc k) d (suc-le-suc l))))

  -- so long is their text at least
  rows_length : (hour : ℕ) (numbers : List ℕ) → length numbers ≤ length (rows numbers hour)
  rows_length hour [] = omega arith
  rows_length hour (n ∷ ns) =
      let more = rows_length hour ns in
      let parts = ap length (row_parts hour n (change hour n)) in
      omega (arith, more, parts, length-append (row_text hour n (change hour n)) (rows ns hour), length-append (decimal hour) (44 ∷ (hex_number n ++ (44 ∷ (change_text (change hour n) ++ (13 ∷ 10 ∷ []))))))

  pub all_length : (hours numbers : List ℕ) → length hours * length numbers ≤ length (flat_map (rows numbers) hours)
  all_length [] numbers = omega arith
  all_length (x ∷ xs) numbers =
      let more = all_length xs numbers in
      omega (arith, more, rows_length x numbers, length-append (rows numbers x) (flat_map (rows numbers) xs))
