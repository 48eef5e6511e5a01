-- A text, line by line.
use Rattle.std.proofs.Common.{◌≡◌, refl, sym, ap, ◌∙◌, ℕ, suc, ◌+◌, ◌-◌, ◌<◌, ◌≤◌, true, false, List, [], ◌∷◌, ◌++◌, length, get_or, take, drop, Ok, Err, arith, append-nil, append_assoc, ap₂, subst, inl, inr, min, leb, leb-true, leb-false, take_all, drop_of_length-le, zero-lt-suc, ⊎_elim}
use Rattle.std.specs.List.{position_or_len}
use Rattle.bits.proofs.Picks.{tested}
use Rattle.std.proofs.lemmas.List.{length-append}
use Rattle.hourly_table.specs.Samples.{Sampled}
use Rattle.hourly_run.specs.Lines.{is_lf, onto_first, lines_of}
use Rattle.hourly_run.specs.Entries.{entry_of}
use Rattle.hourly_run.specs.Pages.{Shelved}
use Rattle.hourly_run.specs.Said.{line_said}
use Rattle.hourly_run.specs.Samples.{Told, MayTell, in_front, SamplesIn, SamplesOf}

pub same_take : (l : List ℕ) (m n : ℕ) → n ≡ min m (length l) → take m l ≡ take n l
same_take l m n e =
    ⊎_elim
    (λ (y : leb m (length l) ≡ true). ap (λ k. take k l) (let h = leb-true m (length l) y in omega arith))
    (λ (f : leb m (length l) ≡ false). let h = leb-false m (length l) f in take_all m l (omega arith) ∙ sym (take_all n l (omega arith)))
    (tested (leb m (length l)))

same_drop : (l : List ℕ) (m n : ℕ) → n ≡ min m (length l) → drop m l ≡ drop n l
same_drop l m n e =
    ⊎_elim
    (λ (y : leb m (length l) ≡ true). ap (λ k. drop k l) (let h = leb-true m (length l) y in omega arith))
    (λ (f : leb m (length l) ≡ false). let h = leb-false m (length l) f in drop_of_length-le l (omega arith) ∙ sym (drop_of_length-le l (omega arith)))
    (tested (leb m (length l)))

onto_more : (b : ℕ) (bs : List ℕ) → is_lf b ≡ false → (line : List ℕ) (lines : List (List ℕ)) → lines_of bs ≡ line ∷ lines → lines_of (b ∷ bs) ≡ (b ∷ line) ∷ lines
unfolding lines_of
onto_more b bs n line lines e = rw n (ap (onto_first b) e)

-- the first line goes as far as LF, and that into it; or as far as the text
cut_at : (text : List ℕ) → 0 < length text → lines_of text ≡ take (suc (position_or_len is_lf text)) text ∷ lines_of (drop (suc (position_or_len is_lf text)) text)
unfolding lines_of
cut_at [] h = absurd (omega arith)
cut_at (b ∷ []) h = elim (tested (is_lf b)) [ inl y ↦ rw y refl | inr n ↦ rw n refl ]
cut_at (b ∷ c ∷ cs) h =
    ⊎_elim
    (λ (y : is_lf b ≡ true). rw y refl)
    (λ (n : is_lf b ≡ false).
    let m = position_or_len is_lf (c ∷ cs) in
    let e : position_or_len is_lf (b ∷ c ∷ cs) ≡ suc m = rw n (omega arith) in
    let step : lines_of (b ∷ c ∷ cs) ≡ take (suc (suc m)) (b ∷ c ∷ cs) ∷ lines_of (drop (suc (suc m)) (b ∷ c ∷ cs)) = onto_more b (c ∷ cs) n (take (suc m) (c ∷ cs)) (lines_of (drop (suc m) (c ∷ cs))) (cut_at (c ∷ cs) (zero-lt-suc (length cs))) in
    subst (λ (k : ℕ). lines_of (b ∷ c ∷ cs) ≡ take (suc k) (b ∷ c ∷ cs) ∷ lines_of (drop (suc k) (b ∷ c ∷ cs))) (sym e) step)
    (tested (is_lf b))

pub cut : (text : List ℕ) (n : ℕ) (line after : List ℕ) → 0 < length text → n ≡ min (position_or_len is_lf text + 1) (length text) → line ≡ take n text → after ≡ drop n text → lines_of text ≡ line ∷ lines_of after
cut text n line after h e l a =
    cut_at text h ∙ ap₂ (λ (x y : List ℕ). x ∷ lines_of y) (same_take text (suc (position_or_len is_lf text)) n (omega arith) ∙ sym l) (same_drop text (suc (position_or_len is_lf text)) n (omega arith) ∙ sym a)

-- samples behind others
abbrev pub behind : List Sampled → Told → Told
behind first (Ok samples) = Ok (first ++ samples)
behind first (Err said) = Err said

none_behind : (r : Told) → r ≡ behind [] r
none_behind (Ok samples) = refl
none_behind (Err said) = refl

in_front_behind : (first : List Sampled) (s : Sampled) (r : Told) → behind first (in_front s r) ≡ behind (first ++ s ∷ []) r
in_front_behind first s (Ok samples) = ap Ok (sym (append_assoc first (s ∷ []) samples))
in_front_behind first s (Err said) = refl

-- the first samples of a text, in front of all that the rest of it may tell; a line each, so that the next has the number behind theirs
abbrev pub Begins : Shelved → List ℕ → List Sampled → List ℕ → Type 0
Begins shelf text first rest = (more : Told) → SamplesIn shelf (length first + 1) (lines_of rest) more → SamplesOf shelf text (behind first more)

pub begins_none : (shelf : Shelved) (text : List ℕ) → Begins shelf text [] text
begins_none shelf text more m = subst (λ (x : Told). SamplesOf shelf text x) (none_behind more) m

module _ (shelf : Shelved) (text : List ℕ) (first : List Sampled) (rest : List ℕ) (b : Begins shelf text first rest) where
  -- one line more
  pub line_more : (line after : List ℕ) (s : Sampled) → lines_of rest ≡ line ∷ lines_of after → MayTell shelf (entry_of line) (Ok s) → Begins shelf text (first ++ s ∷ []) after
  unfolding SamplesIn
  line_more line after s l t more m =
      let n : length (first ++ s ∷ []) + 1 ≡ length first + 1 + 1 = omega (arith, length-append first (s ∷ [])) in
      let next = subst (λ (k : ℕ). SamplesIn shelf k (lines_of after) more) n m in
      subst (λ (x : Told). SamplesOf shelf text x) (in_front_behind first s more)
      (b (in_front s more) (subst (λ (ls : List (List ℕ)). SamplesIn shelf (length first + 1) ls (in_front s more)) (sym l) (Ok s, t, (more, next, refl))))

  -- or the line that tells none
  pub line_bad : (line after why : List ℕ) → lines_of rest ≡ line ∷ lines_of after → MayTell shelf (entry_of line) (Err why) → SamplesOf shelf text (Err (line_said shelf (length first + 1) (entry_of line) why))
  unfolding SamplesIn
  line_bad line after why l t =
      let said = line_said shelf (length first + 1) (entry_of line) why in
      b (Err said) (subst (λ (ls : List (List ℕ)). SamplesIn shelf (length first + 1) ls (Err said)) (sym l) (Err why, t, refl))

-- behind the last line
pub lines_all : (shelf : Shelved) (text : List ℕ) (first : List Sampled) (rest : List ℕ) → Begins shelf text first rest → length rest ≡ 0 → SamplesOf shelf text (Ok first)
unfolding SamplesIn lines_of
lines_all shelf text first [] b e = subst (λ (x : List Sampled). SamplesOf shelf text (Ok x)) (append-nil first) (b (Ok []) refl)
lines_all shelf text first (c ∷ cs) b e = absurd (omega arith)

-- ---- the line at a place

pub at_none : (rest : List ℕ) (k : ℕ) → length rest ≡ 0 → rest ≡ get_or (lines_of rest) k []
unfolding lines_of
at_none [] k e = refl
at_none (c ∷ cs) k e = absurd (omega arith)

pub at_more : (lines : List (List ℕ)) (line : List ℕ) (after : List (List ℕ)) (place i : ℕ) → lines ≡ line ∷ after → i < place → get_or lines (place - i) [] ≡ get_or after (place - (i + 1)) []
at_more lines line after place i e h =
    let next : place - i ≡ suc (place - (i + 1)) = omega arith in
    rw (e, next) refl

pub at_first : (lines : List (List ℕ)) (line : List ℕ) (after : List (List ℕ)) (place i : ℕ) → lines ≡ line ∷ after → place ≤ i → line ≡ get_or lines (place - i) []
at_first lines line after place i e h =
    let first : place - i ≡ 0 = omega arith in
    rw (e, first) refl
