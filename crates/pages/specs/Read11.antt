-- Log page 11h as it is read: a counter's value, or absent, or a refusal.
use Rattle.std.specs.Prelude.{◌≡◌, ℕ, ◌+◌, Bool, not, ◌||◌, List, [], ◌∷◌, length, ltb, leb, eqb, Option, Some, None, Result, Ok, Err, count_by}
use Rattle.std.specs.List.{find, list_any}
use Rattle.std.specs.Option.{option_map}
use Rattle.bits.specs.Answer.{Answer}
use Rattle.bits.specs.Little.{le_at}
use Rattle.refusals.specs.First.{Rung, first_of, rung, unless, refusal_in}
use Rattle.refusals.specs.Number.{number}
use Rattle.refusals.specs.Told.{answer_unless}
use Rattle.refusals.specs.declared.reasons.Refusal.{Refusal}
use Rattle.refusals.specs.declared.reasons.Refusal.TheVariants.{PageLength, PageSum, PageDamaged, NoCounter}
use Rattle.pages.specs.Sum.{sum256}
use Rattle.pages.specs.Entries.{CounterEntry, bytes_in, wrong_width, past_end, nameless, entry_asked, entries}
use Rattle.pages.specs.Told11.{number_told}
use Rattle.pages.specs.declared.value.CounterValue.{CounterValue}

-- 22, of any entry: width not 1 to 4, identifier or value past 508, or a non-vendor identifier other than 0000h with low 12 bits 0
abbrev pub any_fault : List CounterEntry → Bool
any_fault es = (list_any wrong_width es || list_any past_end es) || list_any nameless es

-- 22: such an entry, or the asked number found twice [refused-22] [damaged-twice]
unfoldable pub damaged : ℕ → List CounterEntry → Bool
damaged asked es = any_fault es || leb 2 (count_by (entry_asked asked) es)

-- the value of an entry, which stands behind its identifier, and its bytes
abbrev pub value_of : List ℕ → CounterEntry → CounterValue
value_of page e = record { value = le_at page (e.place + 2) (bytes_in e.id); bytes = bytes_in e.id }

-- the value of a row, which has four bytes
abbrev pub row_value : ℕ → CounterValue
row_value v = record { value = v; bytes = 4 }

-- the value of the entry that is asked for, or absent [absent] [page-11h-read]
unfoldable pub value_in : List ℕ → ℕ → List CounterEntry → Option CounterValue
value_in page asked es = option_map (value_of page) (find (entry_asked asked) es)

-- 23: number asked not 1 to FFFh [refused-23]
abbrev pub no_number : ℕ → Bool
no_number asked = ltb asked 1 || ltb 4095 asked

-- reader order: 20, 23, 21, 22 [refused-20] [refused-21]
abbrev pub ladder11 : List ℕ → ℕ → List Rung
ladder11 page asked =
    rung PageLength (not (eqb (length page) 512))
    ∷ rung NoCounter (no_number asked)
    ∷ rung PageSum (not (eqb (sum256 page) 0))
    ∷ rung PageDamaged (damaged asked (entries page)) ∷ []

-- the answer: value or absent, unless the page is refused [page-11h-read]
unfoldable pub read_counter : List ℕ → ℕ → Result (Option CounterValue) Refusal
read_counter page asked = unless (first_of (ladder11 page asked)) (value_in page asked (entries page))

-- what each answer tells: a value and its width; absent, which tells no value at all; or the refusal's number [answer-values] [absent]
unfoldable pub counter_answer : Result (Option CounterValue) Refusal → Answer
counter_answer (Ok (Some v)) = record { number = 0; values = v.value ∷ v.bytes ∷ [] }
counter_answer (Ok None) = record { number = 0; values = [] }
counter_answer (Err r) = record { number = number r; values = [] }

-- what the reader promises: value, absent or the refusal, the refusal exactly by its list, and the number and values that this tells [answer-values]
pub record PageCounterGiven (page : List ℕ) (asked : ℕ) (r : Result (Option CounterValue) Refusal) : Type 0 where
  pub answer : r ≡ read_counter page asked
  pub refusal : refusal_in r ≡ first_of (ladder11 page asked)
  pub told : counter_answer r ≡ answer_unless (first_of (ladder11 page asked)) (number_told page asked)
