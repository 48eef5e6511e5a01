-- Each refusal of page 10h is given exactly when it should be.
use Rattle.std.proofs.Common.{◌≡◌, ap, ◌∙◌, List, ℕ, Result, arith}
use Rattle.refusals.specs.First.{first_of, refusal_in, FirstExactly}
use Rattle.refusals.specs.Number.{number_told}
use Rattle.refusals.specs.declared.reasons.Refusal.{Refusal}
use Rattle.refusals.proofs.FirstLaws as firsts
use Rattle.refusals.proofs.FirstLaws.{refusal_in_unless}
use Rattle.pages.specs.Page10.{fields10, ladder10, read_log, log_answer, LogGiven}
use Rattle.pages.specs.declared.page10.ErrorLog.{ErrorLog}
use Rattle.pages.proofs.ToldLaws10.{log_tells}

-- the refusal is that of the first rung that holds
refusal_first : (l : List ℕ) → refusal_in (read_log l) ≡ first_of (ladder10 l)
unfolding read_log
refusal_first l = refusal_in_unless (first_of (ladder10 l)) (fields10 l)

pub first_exactly : (l : List ℕ) → FirstExactly (ladder10 l) (refusal_in (read_log l))
first_exactly l = rw (refusal_first l) (firsts.first_exactly (ladder10 l) tt)

-- the number that an answer tells is that of its refusal, and 0 where it has none
pub number_told_lem : (r : Result ErrorLog Refusal) → (log_answer r).number ≡ number_told (refusal_in r)
unfolding log_answer
number_told_lem r = grind arith

-- the answer is all that the reader promises
pub log_told_lem : (l : List ℕ) (r : Result ErrorLog Refusal) → r ≡ read_log l → LogGiven l r
log_told_lem l r e = record { answer = e; refusal = ap refusal_in e ∙ refusal_first l; told = ap log_answer e ∙ log_tells l }
