-- What is owed to named files: a section each.
use Rattle.std.specs.Prelude.{◌≡◌, ℕ, Bool, List, [], ◌∷◌, ◌++◌, max, codes, if◌then◌else◌, Option, Some, None}
use Rattle.page_text.specs.declared.answers.Answer.{Answer}
use Rattle.page_text.specs.declared.answers.Answer.TheVariants.{Unopened}
use Rattle.page_text.specs.declared.queries.Query.{Query}
use Rattle.page_text.specs.Answers.{status_of}
use Rattle.page_text.specs.Opened.{Agrees}
use Rattle.page_text.specs.Owed.{Owes}

-- the line of a name in front of its page's text, where there are more files than one
abbrev pub heading : Bool → List ℕ → List ℕ
heading many name = if many then name ++ codes ":\n" else []

-- by what opening it gave: one line that says that it is unread, or its page's text [text-files]
abbrev pub OwesOpened : Query → Bool → List ℕ → Option (Option (List ℕ)) → Answer → List ℕ → Type 0
OwesOpened query many name None answer text = (answer ≡ Unopened) × (text ≡ name ++ codes ": unread\n")
OwesOpened query many name (Some known) answer text = (told : List ℕ) × Owes query known answer told × (text ≡ heading many name ++ told)

-- a named file's section, by what is known of its name
abbrev pub OwesFile : Query → Bool → (List ℕ → Option (Option (List ℕ))) → List ℕ → Answer → List ℕ → Type 0
OwesFile query many holds name answer text = (opened : Option (Option (List ℕ))) × Agrees (holds name) opened × OwesOpened query many name opened answer text

-- the sections of files in their order, and the greatest of their statuses [text-files]
unfoldable pub OwesFiles : Query → Bool → (List ℕ → Option (Option (List ℕ))) → List (List ℕ) → ℕ → List ℕ → Type 0
OwesFiles query many holds [] status text = (status ≡ 0) × (text ≡ [])
OwesFiles query many holds (name ∷ names) status text =
    (answer : Answer) × (first : List ℕ) × OwesFile query many holds name answer first
    × ((later : ℕ) × (rest : List ℕ) × OwesFiles query many holds names later rest × (status ≡ max (status_of answer) later) × (text ≡ first ++ rest))
