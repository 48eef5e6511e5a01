-- What a run writes for what it reads, for each way in which it may go.
use Rattle.std.specs.Prelude.{◌≡◌, ltb, ℕ, List, [], ◌++◌, length, Option, Result, Ok, Err}
use Rattle.std.specs.Io.KnownBytes.{Appends, Keeps}
use Rattle.streams.specs.Fronts.{AppendsFront}
use Rattle.streams.specs.Lost.{complaint}
use Rattle.page_text.specs.declared.answers.Answer.{Answer}
use Rattle.page_text.specs.declared.ends.Lost.{Lost}
use Rattle.page_text.specs.declared.ends.Lost.TheVariants.{Aloud, Unsaid}
use Rattle.page_text.specs.declared.queries.Query.{Query}
use Rattle.page_text.specs.Answers.{status_of}
use Rattle.page_text.specs.Owed.{Owes}
use Rattle.page_text.specs.Sections.{OwesFiles}
use Rattle.page_text.specs.Written.{Tells, TellsFront}

-- the sections of all files are written
abbrev pub WritesFiles : Query → (List ℕ → Option (Option (List ℕ))) → List (List ℕ) → Option (List ℕ) → Option (List ℕ) → ℕ → Type 0
WritesFiles query holds names old new status = (text : List ℕ) × OwesFiles query (ltb 1 (length names)) holds names status text × Appends old new text

-- a front of the sections of the first few is written
abbrev pub LosesFiles : Query → (List ℕ → Option (Option (List ℕ))) → List (List ℕ) → Option (List ℕ) → Option (List ℕ) → Type 0
LosesFiles query holds names old new =
    (first : List (List ℕ)) × (others : List (List ℕ)) × (names ≡ first ++ others)
    × ((status : ℕ) × (text : List ℕ) × OwesFiles query (ltb 1 (length names)) holds first status text × AppendsFront old new text)

-- all is written: the page that was read (known) where no file is named, else the files' sections [text-lost]
abbrev pub Writes : Query → (List ℕ → Option (Option (List ℕ))) → List (List ℕ) → (known old new : Option (List ℕ)) → ℕ → Type 0
Writes query holds [] known old new status = (answer : Answer) × (status ≡ status_of answer) × Tells (Owes query known) old new answer
Writes query holds names known old new status = WritesFiles query holds names old new status

-- a front of it is written [text-lost]
abbrev pub Loses : Query → (List ℕ → Option (Option (List ℕ))) → List (List ℕ) → (known old new : Option (List ℕ)) → Type 0
Loses query holds [] known old new = TellsFront (Owes query known) old new
Loses query holds names known old new = LosesFiles query holds names old new

-- that lines are missing is said, or a front of that [text-lost]
abbrev pub SaysMissing : (errors errors' : Option (List ℕ)) → Lost → Type 0
SaysMissing errors errors' Aloud = Appends errors errors' complaint
SaysMissing errors errors' Unsaid = AppendsFront errors errors' complaint

-- all is written and nothing said; or lines are missing [text-lost]
abbrev pub Ran : Query → (List ℕ → Option (Option (List ℕ))) → List (List ℕ) → (known old new errors errors' : Option (List ℕ)) → Result ℕ Lost → Type 0
Ran query holds names known old new errors errors' (Ok status) = Writes query holds names known old new status × Keeps errors errors'
Ran query holds names known old new errors errors' (Err lost) = Loses query holds names known old new × SaysMissing errors errors' lost

-- the exit status of a run: the greatest of its answers' statuses, and 4 where lines are missing [text-status]
abbrev pub exit_status_of : Result ℕ Lost → ℕ
exit_status_of (Ok status) = status
exit_status_of (Err lost) = 4
