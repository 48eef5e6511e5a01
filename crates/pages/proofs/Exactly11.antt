-- Each refusal of page 11h is given exactly when it should be.
use Rattle.std.proofs.Common.{◌≡◌, ap, ◌∙◌, List, ℕ, Option, Result, arith}
use Rattle.refusals.specs.First.{first_of, refusal_in, FirstExactly}
use Rattle.refusals.specs.Number.{number_told}
use Rattle.refusals.specs.declared.reasons.Refusal.{Refusal}
use Rattle.refusals.proofs.FirstLaws as firsts
use Rattle.refusals.proofs.FirstLaws.{refusal_in_unless}
use Rattle.pages.specs.Entries.{entries}
use Rattle.pages.specs.Read11.{value_in, ladder11, read_counter, counter_answer, PageCounterGiven}
use Rattle.pages.specs.declared.value.CounterValue.{CounterValue}
use Rattle.pages.proofs.ToldLaws11.{counter_tells}

-- the refusal is that of the first rung that holds
refusal_first : (page : List ℕ) (number : ℕ) → refusal_in (read_counter page number) ≡ first_of (ladder11 page number)
unfolding read_counter
refusal_first page number = refusal_in_unless (first_of (ladder11 page number)) (value_in page number (entries page))

pub first_exactly : (page : List ℕ) (number : ℕ) → FirstExactly (ladder11 page number) (refusal_in (read_counter page number))
first_exactly page number = rw (refusal_first page number) (firsts.first_exactly (ladder11 page number) tt)

-- the number that an answer tells is that of its refusal, and 0 where it has none
pub number_told_lem : (r : Result (Option CounterValue) Refusal) → (counter_answer r).number ≡ number_told (refusal_in r)
unfolding counter_answer
number_told_lem r = grind arith

-- the answer is all that the reader promises
pub counter_told : (page : List ℕ) (number : ℕ) (r : Result (Option CounterValue) Refusal) → r ≡ read_counter page number → PageCounterGiven page number r
counter_told page number r e = record { answer = e; refusal = ap refusal_in e ∙ refusal_first page number; told = ap counter_answer e ∙ counter_tells page number }
