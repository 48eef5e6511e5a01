-- The bytes of page 10h of which a bit is set that no field is named for.
use Rattle.std.specs.Prelude.{◌≡◌, ℕ, Bool, not, List, Result, count_by}
use Rattle.std.specs.List.{zip}
use Rattle.frames.specs.Layout.{bits, masks, holds}
use Rattle.refusals.specs.First.{first_of, unless, refusal_in}
use Rattle.refusals.specs.declared.reasons.Refusal.{Refusal}
use Rattle.pages.specs.Page10.{log_layout, nq_in, ladder10}

-- a byte, beside the bits of it that are named, has another set
abbrev pub has_other : ℕ × ℕ → Bool
has_other byte = not (holds (bits byte.1) byte.0)

-- how many bytes of a page have [others-10h]
abbrev pub others_in : List ℕ → ℕ
others_in page = count_by has_other (zip page (masks (log_layout (nq_in page))))

-- the same, unless the page is refused [others-10h]
unfoldable pub count_other_bytes : List ℕ → Result ℕ Refusal
count_other_bytes page = unless (first_of (ladder10 page)) (others_in page)

-- what the count promises: it or the refusal, and the refusal exactly by its list
pub record OtherBytesGiven (page : List ℕ) (r : Result ℕ Refusal) : Type 0 where
  pub answer : r ≡ count_other_bytes page
  pub refusal : refusal_in r ≡ first_of (ladder10 page)
