-- The number of the first line that tells no sample, and the words of a line.
use Rattle.std.proofs.Common.{◌≡◌, refl, sym, subst, ℕ, suc, ◌+◌, ◌<◌, List, [], ◌∷◌, ◌++◌, length, get_or, codes, Option, Some, None, Ok, Err, arith, zero-lt-suc, suc-le-suc}
use Rattle.std.specs.Fmt.{digits}
use Rattle.hourly_table.specs.Samples.{Sampled}
use Rattle.hourly_run.specs.Entries.{entry_of}
use Rattle.hourly_run.specs.Lines.{lines_of}
use Rattle.hourly_run.specs.Pages.{Shelved}
use Rattle.hourly_run.specs.Said.{line_said}
use Rattle.hourly_run.specs.Samples.{MayTell, SamplesIn, SamplesOf}
use Rattle.hourly_run.specs.Shown.{shown}

counted : (shelf : Shelved) (n : ℕ) (before : List (List ℕ)) (line : List ℕ) (after : List (List ℕ)) (why : List ℕ) → ((k : ℕ) → k < length before → (s : Sampled) × MayTell shelf (entry_of (get_or before k [])) (Ok s)) → MayTell shelf (entry_of line) (Err why)
    → SamplesIn shelf n (before ++ line ∷ after) (Err (line_said shelf (n + length before) (entry_of line) why))
unfolding SamplesIn
counted shelf n [] line after why each t = (Err why, t, (let e : n + 0 ≡ n = omega arith in rw e refl))
counted shelf n (b ∷ bs) line after why each t =
    let first = each 0 (zero-lt-suc (length bs)) in
    let next : n + 1 + length bs ≡ n + suc (length bs) = omega arith in
    let more = counted shelf (n + 1) bs line after why (λ k h. each (suc k) (suc-le-suc h)) t in
    (Ok first.0, first.1, (Err (line_said shelf (n + suc (length bs)) (entry_of line) why), subst (λ (m : ℕ). SamplesIn shelf (n + 1) (bs ++ line ∷ after) (Err (line_said shelf m (entry_of line) why))) next more, refl))

pub line_counted : (shelf : Shelved) (text : List ℕ) (before : List (List ℕ)) (line : List ℕ) (after : List (List ℕ)) (why : List ℕ) → lines_of text ≡ before ++ line ∷ after → ((k : ℕ) → k < length before → (s : Sampled) × MayTell shelf (entry_of (get_or before k [])) (Ok s)) → MayTell shelf (entry_of line) (Err why)
    → SamplesOf shelf text (Err (line_said shelf (length before + 1) (entry_of line) why))
line_counted shelf text before line after why e each t =
    let number : 1 + length before ≡ length before + 1 = omega arith in
    subst (λ (ls : List (List ℕ)). SamplesIn shelf 1 ls (Err (line_said shelf (length before + 1) (entry_of line) why))) (sym e)
    (subst (λ (m : ℕ). SamplesIn shelf 1 (before ++ line ∷ after) (Err (line_said shelf m (entry_of line) why))) number (counted shelf 1 before line after why each t))

pub hour_worded : (why : List ℕ) → line_said None 17 (Ok (4711, [])) why ≡ codes "line 17, hour 4711: " ++ why
unfolding digits
hour_worded why = refl

pub page_worded : (holds : List ℕ → Option (Option (List ℕ))) → line_said (Some holds) 3 (Ok (100, codes "a\u{1b}.page")) (codes "x") ≡ codes "line 3, hour 100, page a\\x1b.page: x"
unfolding shown digits
page_worded holds = refl

pub none_worded : (why : List ℕ) → line_said None 1 (Err why) why ≡ codes "line 1: " ++ why
unfolding digits
none_worded why = refl
