-- What is owed an input: what is printed of it, and what is said on standard error.
use Rattle.std.specs.Prelude.{◌≡◌, ℕ, ◌^◌, List, [], ◌++◌, codes, decimal, IfSome, Option, Some, None, Result, Ok, Err}
use Rattle.hourly_table.specs.Samples.{Sampled}
use Rattle.hourly_table.specs.Refused.{table_number}
use Rattle.hourly_table.specs.Table.{table, table_size}
use Rattle.hourly_table.specs.declared.reasons.TableRefusal.{TableRefusal}
use Rattle.hourly_run.specs.Faults.{not_opened, read_failed}
use Rattle.hourly_run.specs.Lines.{lines_of}
use Rattle.hourly_run.specs.Pages.{Shelved}
use Rattle.hourly_run.specs.Blamed.{refusal_said}
use Rattle.hourly_run.specs.Said.{file_said}
use Rattle.hourly_run.specs.Samples.{Told, SamplesOf}
use Rattle.hourly_run.specs.declared.answers.Answer.{Answer}
use Rattle.hourly_run.specs.declared.answers.Answer.TheVariants as ans

-- an answer, what is printed, and what is said on standard error
abbrev pub Telling : Type 0
Telling = Answer × (List ℕ × List ℕ)

abbrev pub telling : Answer → List ℕ → List ℕ → Telling
telling answer text said = (answer, (text, said))

abbrev pub refused_text : TableRefusal → List ℕ
refused_text refusal = codes "refused " ++ decimal (table_number refusal) ++ codes "\n"

abbrev pub stop_text : List ℕ
stop_text = codes "stop\n"

-- the table, or why it is refused
abbrev pub table_of : List Sampled → List ℕ → Result ℕ TableRefusal → Result (List ℕ) TableRefusal
table_of samples numbers (Ok size) = Ok (table samples numbers)
table_of samples numbers (Err refusal) = Err refusal

-- in a room of 2^30 bytes [hourly-input]
abbrev pub table_within : List Sampled → List ℕ → Result (List ℕ) TableRefusal
table_within samples numbers = table_of samples numbers (table_size samples numbers (2 ^ 30))

-- the table, and nothing said; or the refusal, with what is said of it [hourly-input] [hourly-said]
abbrev pub told_of : (TableRefusal → List ℕ) → Result (List ℕ) TableRefusal → Telling
told_of said (Ok text) = telling ans.Told text []
told_of said (Err refusal) = telling ans.Refused (refused_text refusal) (said refusal)

-- of samples; or of a line that tells none: `stop`, and what is said of the line [hourly-input] [hourly-said]
abbrev pub owed_samples : List ℕ → Shelved → List (List ℕ) → List ℕ → Told → Telling
owed_samples file shelf lines numbers (Ok samples) = told_of (refusal_said file shelf lines numbers samples) (table_within samples numbers)
owed_samples file shelf lines numbers (Err said) = telling ans.Malformed stop_text (file_said file said)

-- of a text: what the samples are owed that it may tell
abbrev pub IsOwed : List ℕ → Shelved → List ℕ → List ℕ → Telling → Type 0
IsOwed file shelf numbers text t = (told : Told) × SamplesOf shelf text told × (t ≡ owed_samples file shelf (lines_of text) numbers told)

-- of what was read of the file, where that is known; or a read of it failed, which is said, and `stop` is printed [hourly-input]
abbrev pub OwesRead : List ℕ → Shelved → List ℕ → Option (List ℕ) → Answer → List ℕ → List ℕ → Type 0
OwesRead file shelf numbers known ans.Stopped text said = (reason : List ℕ) × (text ≡ stop_text) × (said ≡ file_said file (read_failed reason))
OwesRead file shelf numbers known answer text said = IfSome known (λ input. IsOwed file shelf numbers input (telling answer text said))

-- by what opening the file gave: `stop`, and that it was not opened, or what is owed what was read of it [hourly-input]
abbrev pub OwesOpened : List ℕ → Shelved → List ℕ → Option (Option (List ℕ)) → Answer → List ℕ → List ℕ → Type 0
OwesOpened file shelf numbers None answer text said = (reason : List ℕ) × (telling answer text said ≡ telling ans.Unopened stop_text (file_said file (not_opened reason)))
OwesOpened file shelf numbers (Some known) answer text said = OwesRead file shelf numbers known answer text said

-- the exit status: 0 a table, 1 a refusal, 2 a word that is no counter, 3 a malformed line, or a file not opened or read [hourly-status]
abbrev pub status_of : Answer → ℕ
status_of ans.Told = 0
status_of ans.Refused = 1
status_of ans.Misasked = 2
status_of ans.Malformed = 3
status_of ans.Stopped = 3
status_of ans.Unopened = 3
