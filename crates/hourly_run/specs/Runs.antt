-- What a run writes for what it reads, for each way in which it may go.
use Rattle.std.specs.Prelude.{◌≡◌, ◌⊎◌, ℕ, ◌<◌, max, List, length, take, Option, Result, Ok, Err}
use Rattle.std.specs.Io.KnownBytes.{Appends}
use Rattle.streams.specs.Fronts.{AppendsFront}
use Rattle.page_text.specs.declared.ends.Lost.{Lost}
use Rattle.page_text.specs.declared.ends.Lost.TheVariants.{Aloud, Unsaid}
use Rattle.page_text.specs.Runs.{SaysMissing}
use Rattle.hourly_run.specs.declared.answers.Answer.{Answer}
use Rattle.hourly_run.specs.Asked.{Asked, Owes}
use Rattle.hourly_run.specs.Owed.{status_of}

-- an answer that what is asked may be owed, with its texts
pub record Answered (holds : List ℕ → Option (Option (List ℕ))) (a : Asked) : Type 0 where
  pub answer : Answer
  pub text : List ℕ
  pub said : List ℕ
  pub owes : Owes holds a answer text said

-- a front of the text is printed, and not all of it; of an empty text nothing [hourly-lost]
abbrev pub PrintsFront : Option (List ℕ) → Option (List ℕ) → List ℕ → Type 0
PrintsFront old new text = (k : ℕ) × (k < max 1 (length text)) × Appends old new (take k text)

-- all is printed and said; or lines are missing, and that is said, or a front of that; or all is printed, and of what was to be said a front is [hourly-lost]
abbrev pub Ran : (List ℕ → Option (Option (List ℕ))) → Asked → (old new errors errors' : Option (List ℕ)) → Result ℕ Lost → Type 0
Ran holds a old new errors errors' (Ok status) = (t : Answered holds a) × (status ≡ status_of t.answer) × Appends old new t.text × Appends errors errors' t.said
Ran holds a old new errors errors' (Err Aloud) = (t : Answered holds a) × PrintsFront old new t.text × SaysMissing errors errors' Aloud
Ran holds a old new errors errors' (Err Unsaid) = (t : Answered holds a) × ((PrintsFront old new t.text × SaysMissing errors errors' Unsaid) ⊎ (Appends old new t.text × AppendsFront errors errors' t.said))
