-- Two answers about one page, either of which may refuse it.
use Rattle.std.specs.Prelude.{Result, Ok, Err}
use Rattle.refusals.specs.declared.reasons.Refusal.{Refusal}

-- both, or the refusal of the first that refuses
abbrev pub both : {A B : Type 0} → Result A Refusal → Result B Refusal → Result (A × B) Refusal
both (Ok a) (Ok b) = Ok (a, b)
both (Ok a) (Err refusal) = Err refusal
both (Err refusal) b = Err refusal
