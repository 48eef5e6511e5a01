-- What is asked of a run, and what is owed to that.
use Rattle.std.specs.Prelude.{◌≡◌, ℕ, Bool, List, [], codes, map, if◌then◌else◌, Option, Some, None, Result, Ok, Err}
use Rattle.page_text.specs.Opened.{Agrees}
use Rattle.hourly_run.specs.Numbers.{numbers_in}
use Rattle.hourly_run.specs.Owed.{Telling, telling, OwesOpened}
use Rattle.hourly_run.specs.Pages.{Shelved}
use Rattle.hourly_run.specs.Said.{counter_said}
use Rattle.hourly_run.specs.Shown.{shown}
use Rattle.hourly_run.specs.declared.answers.Answer.{Answer}
use Rattle.hourly_run.specs.declared.answers.Answer.TheVariants.{Misasked}
use Rattle.hourly_run.specs.declared.questions.Question.{Question}

-- the name of the file of samples, whether each line names the file of its page, and the words of the counters
pub record Asked : Type 0 where
  pub file : List ℕ
  pub listed : Bool
  pub counters : List (List ℕ)

abbrev pub asked : Question → Asked
asked q = record { file = q.file.now; listed = q.listed; counters = map (λ word. word.now) q.counters.now }

-- where the pages of lines stand: in files, or in hex
abbrev pub pages_of : (List ℕ → Option (Option (List ℕ))) → Bool → Shelved
pages_of holds listed = if listed then Some holds else None

-- of a word that is no counter: nothing is printed, and it is said [hourly-counters]
abbrev pub misasked : List ℕ → Telling
misasked word = telling Misasked [] (counter_said (shown word) (codes "not 1 to 4 hex digits"))

-- what the file is owed, by what is known of names, once every word is a number; or what the first word is owed that is none [hourly-counters]
abbrev pub OwesAsked : (List ℕ → Option (Option (List ℕ))) → List ℕ → Bool → Result (List ℕ) (List ℕ) → Answer → List ℕ → List ℕ → Type 0
OwesAsked holds file listed (Err word) answer text said = telling answer text said ≡ misasked word
OwesAsked holds file listed (Ok numbers) answer text said =
    (opened : Option (Option (List ℕ))) × Agrees (holds file) opened × OwesOpened file (pages_of holds listed) numbers opened answer text said

abbrev pub Owes : (List ℕ → Option (Option (List ℕ))) → Asked → Answer → List ℕ → List ℕ → Type 0
Owes holds a answer text said = OwesAsked holds a.file a.listed (numbers_in a.counters) answer text said
