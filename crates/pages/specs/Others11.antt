-- The entries of page 11h that are none of the sixteen counters.
use Rattle.std.specs.Prelude.{◌≡◌, ℕ, Bool, not, ◌||◌, List, [], ◌∷◌, length, eqb, Result, count_by}
use Rattle.std.specs.Option.{is_none}
use Rattle.refusals.specs.First.{Rung, first_of, rung, unless, refusal_in}
use Rattle.refusals.specs.declared.reasons.Refusal.{Refusal}
use Rattle.refusals.specs.declared.reasons.Refusal.TheVariants.{PageLength, PageSum, PageDamaged}
use Rattle.pages.specs.Sum.{sum256}
use Rattle.counters.specs.Rows.{row_of}
use Rattle.pages.specs.Entries.{CounterEntry, number_in, vendor_of, entries}
use Rattle.pages.specs.Read11.{any_fault}

-- the identifier is none of the sixteen counters': a vendor's, or one whose number has no row
abbrev pub id_other : ℕ → Bool
id_other id = vendor_of id || is_none (row_of (number_in id))

abbrev pub entry_other : CounterEntry → Bool
entry_other e = id_other e.id

-- reader order: 20, 21, 22; no number is asked for, so that none can be found twice
abbrev pub ladder_others : List ℕ → List Rung
ladder_others page =
    rung PageLength (not (eqb (length page) 512))
    ∷ rung PageSum (not (eqb (sum256 page) 0))
    ∷ rung PageDamaged (any_fault (entries page)) ∷ []

-- how many entries are none of the sixteen, each as often as it stands there, unless the page is refused [others-11h]
unfoldable pub count_others : List ℕ → Result ℕ Refusal
count_others page = unless (first_of (ladder_others page)) (count_by entry_other (entries page))

-- what the count promises: it or the refusal, and the refusal exactly by its list
pub record OthersGiven (page : List ℕ) (r : Result ℕ Refusal) : Type 0 where
  pub answer : r ≡ count_others page
  pub refusal : refusal_in r ≡ first_of (ladder_others page)
