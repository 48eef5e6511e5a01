-- Texts written one behind the other.
use Rattle.std.proofs.Common.{◌≡◌, refl, sym, ap, ◌∙◌, ℕ, ◌+◌, ◌-◌, ◌<◌, ◌≤◌, List, ◌++◌, length, get_or, take, arith, length-append, length-drop, take_all}
use borrow.Rule.Slice.PartMut.{mid_of, put_mid}
use Rattle.std.specs.List.{flat_map}
use Rattle.std.proofs.lemmas.List.Folds.{length-flat_map-take}
use Rattle.bits.specs.Laid.{overlay, overlay_with_room}
use Rattle.bits.proofs.Fronts.{laid_next, rest_part, over_yes}
use Rattle.hourly_table.proofs.Lefts.{texts_more, span, at_hour, in_span}

module _ {X : Type 0} (f : X → List ℕ) (xs : List X) (old : List ℕ) where
  -- the texts of the first i elements are written, and are so long
  pub record WrittenAt (i : ℕ) (out : List ℕ) (len : ℕ) : Type 0 where
    pub bytes : out ≡ overlay (flat_map f (take i xs)) old
    pub size : len ≡ length (flat_map f (take i xs))

  pub none_written : WrittenAt 0 old 0
  none_written = record { bytes = refl; size = refl }

  -- the next one has room
  pub room_next : (i : ℕ) (out : List ℕ) (len : ℕ) (d : X) → i < length xs → WrittenAt i out len → length (flat_map f xs) ≤ length old → length out ≡ length old
      → length (f (get_or xs i d)) ≤ length (mid_of len (length out - len) out)
  room_next i out len d h w room same =
      let most = length-flat_map-take f xs i d h in
      let mid : length (mid_of len (length out - len) out) ≡ length out - len = ap length (rest_part len out) ∙ length-drop len out in
      let size = w.size in
      omega arith

  pub written_step : (i : ℕ) (out : List ℕ) (len n : ℕ) (d : X) (ys : List ℕ) → i < length xs → WrittenAt i out len → n ≡ length (f (get_or xs i d))
      → ys ≡ overlay (f (get_or xs i d)) (mid_of len (length out - len) out) → WrittenAt (i + 1) (put_mid len (length out - len) out ys) (len + n)
  written_step i out len n d ys h w e y = record {
    bytes = laid_next len (flat_map f (take i xs)) (f (get_or xs i d)) old out ys (sym w.size) w.bytes y ∙ ap (λ l. overlay l old) (sym (texts_more f xs 0 i d h));
    size = let size = w.size in omega (arith, ap length (texts_more f xs 0 i d h), length-append (flat_map f (take i xs)) (f (get_or xs i d)));
  }

  pub written_end : (i : ℕ) (out : List ℕ) (len : ℕ) → length xs ≤ i → WrittenAt i out len → (out ≡ overlay (flat_map f xs) old) × (len ≡ length (flat_map f xs))
  written_end i out len h w = (w.bytes ∙ ap (λ l. overlay (flat_map f l) old) (take_all i xs h), w.size ∙ ap (λ l. length (flat_map f l)) (take_all i xs h))

  -- by a copy that is made where it has room
  pub written_row : (i : ℕ) (out : List ℕ) (len n : ℕ) (d : X) (row ys : List ℕ) → i < length xs → WrittenAt i out len → length (flat_map f xs) ≤ length old → length out ≡ length old
      → row ≡ f (get_or xs i d) → n ≡ length row → ys ≡ overlay_with_room row (mid_of len (length out - len) out)
      → WrittenAt (i + 1) (put_mid len (length out - len) out ys) (len + n)
  written_row i out len n d row ys h w room same e m y =
      let part = mid_of len (length out - len) out in
      let fits : length row ≤ length part = omega (arith, room_next i out len d h w room same, ap length e) in
      written_step i out len n d ys h w (m ∙ ap length e) (y ∙ over_yes row part fits ∙ ap (λ r. overlay r part) e)

-- ---- of the numbers from one to another

module _ (f : ℕ → List ℕ) (first last : ℕ) (old : List ℕ) where
  module _ (hour : ℕ) (out : List ℕ) (len : ℕ) (low : first ≤ hour) (high : hour ≤ last) (w : WrittenAt f (span first last) old (hour - first) out len) where
    same_hour : f (get_or (span first last) (hour - first) 0) ≡ f hour
    same_hour = ap f (at_hour first last hour low high)

    pub hour_room : length (flat_map f (span first last)) ≤ length old → length out ≡ length old → length (f hour) ≤ length (mid_of len (length out - len) out)
    hour_room room same = omega (arith, room_next f (span first last) old (hour - first) out len 0 (in_span first last hour low high) w room same, ap length same_hour)

    pub hour_written : (n : ℕ) (ys : List ℕ) → n ≡ length (f hour) → ys ≡ overlay (f hour) (mid_of len (length out - len) out)
        → WrittenAt f (span first last) old (hour + 1 - first) (put_mid len (length out - len) out ys) (len + n)
    hour_written n ys e y =
        let i : (hour - first) + 1 ≡ hour + 1 - first = omega arith in
        rw (← i)
        (written_step f (span first last) old (hour - first) out len n 0 ys (in_span first last hour low high) w (e ∙ ap length (sym same_hour))
        (y ∙ ap (λ l. overlay l (mid_of len (length out - len) out)) (sym same_hour)))

-- ---- a header in front of rows

module _ (head rows old buf : List ℕ) (room : length (head ++ rows) ≤ length old) (laid : buf ≡ overlay_with_room head old) (same : length buf ≡ length old) where
  pub header_laid : buf ≡ overlay head old
  header_laid = laid ∙ over_yes head old (omega (arith, room, length-append head rows))

  pub header_fits : length head ≤ length buf
  header_fits = omega (arith, room, same, length-append head rows)

  pub rows_room : length rows ≤ length (mid_of (length head) (length buf - length head) buf)
  rows_room =
      let mid : length (mid_of (length head) (length buf - length head) buf) ≡ length buf - length head = ap length (rest_part (length head) buf) ∙ length-drop (length head) buf in
      omega (arith, mid, room, same, length-append head rows)
