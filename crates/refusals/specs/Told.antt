-- What is told of what was answered, or refused.
use Rattle.std.specs.Prelude.{List, [], ℕ, Option, Some, None}
use Rattle.bits.specs.Answer.{Answer}
use Rattle.refusals.specs.Number.{number}
use Rattle.refusals.specs.declared.reasons.Refusal.{Refusal}

-- an answer that was given: 0, and its values [answer-values]
abbrev pub answer_with : List ℕ → Answer
answer_with values = record { number = 0; values = values }

-- an answer, unless it was refused: then the refusal's number, and no value [answer-values]
abbrev pub answer_unless : Option Refusal → List ℕ → Answer
answer_unless None values = answer_with values
answer_unless (Some refusal) values = record { number = number refusal; values = [] }
