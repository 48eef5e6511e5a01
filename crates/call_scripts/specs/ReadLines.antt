-- What is printed of what is read.
use Rattle.std.specs.Prelude.{ℕ, false, List, [], ◌∷◌, ◌++◌, codes, decimal, Option, Some, None, Result, Ok, Err}
use Rattle.bits.specs.Answer.{bit_number}
use Rattle.bits.specs.Pick.{pick}
use Rattle.refusals.specs.declared.reasons.Refusal.{Refusal}
use Rattle.frames.specs.Cut.{cut}
use Rattle.frames.specs.Read.{read_frame}
use Rattle.frames.specs.Shared.{tag_of, sectors_of}
use Rattle.counters.specs.Rows.{row_of}
use Rattle.pages.specs.Page10.{read_log}
use Rattle.pages.specs.Read11.{read_counter}
use Rattle.pages.specs.Top.{at_top}
use Rattle.pages.specs.declared.page10.ErrorLog.{ErrorLog}
use Rattle.pages.specs.declared.value.CounterValue.{CounterValue}
use Rattle.events.specs.Lines.{fields_of}
use Rattle.call_scripts.specs.Answers.{refused_text}
use Rattle.call_scripts.specs.FrameText.{field_text, status_text, task_text, frame_text}
use Rattle.call_scripts.specs.Rows.{hex_text}
use Rattle.call_scripts.specs.declared.readings.Reading.{Reading}
use Rattle.call_scripts.specs.declared.readings.Reading.TheVariants.{Frame, Pieces, ErrorPage, Counter, Row, Queued}

-- words without the blank that stands before the first of them, or `none`
abbrev pub words_told : List ℕ → List ℕ
words_told [] = codes "none"
words_told (blank ∷ words) = words

-- type and length of each piece [script-read]
abbrev pub pieces_text : List ℕ → List ℕ
pieces_text bytes = words_told (fields_of false (cut bytes)) ++ codes "\n"

-- the fields of page 10h
unfoldable pub log_fields : ErrorLog → List ℕ
log_fields log = codes "nq=" ++ hex_text (bit_number log.nq) ++ field_text (codes "tag") log.tag ++ status_text log.status log.error ++ task_text log.task

-- or the refusal [script-read]
abbrev pub log_text : Result ErrorLog Refusal → List ℕ
log_text (Ok log) = log_fields log ++ codes "\n"
log_text (Err refusal) = refused_text refusal

-- what page 11h says of a counter: its value in decimal, with ` top` behind the largest of its own width; `absent`; or the refusal [script-read]
abbrev pub page_counter_text : Result (Option CounterValue) Refusal → List ℕ
page_counter_text (Ok (Some found)) = decimal found.value ++ pick (at_top found) (codes " top") [] ++ codes "\n"
page_counter_text (Ok None) = codes "absent\n"
page_counter_text (Err refusal) = refused_text refusal

-- a row in decimal, or `none`
abbrev pub row_text : Option ℕ → List ℕ
row_text (Some row) = decimal row ++ codes "\n"
row_text None = codes "none\n"

-- tag and sectors of a queued command
abbrev pub queued_text : ℕ → ℕ → ℕ → List ℕ
queued_text features high count = codes "tag=" ++ hex_text (tag_of count) ++ codes " sectors=" ++ hex_text (sectors_of features high) ++ codes "\n"

-- what each comes to [script-read]
abbrev pub reading_text : Reading → List ℕ
reading_text (Frame bytes) = frame_text (read_frame bytes)
reading_text (Pieces bytes) = pieces_text bytes
reading_text (ErrorPage page) = log_text (read_log page)
reading_text (Counter number page) = page_counter_text (read_counter page number)
reading_text (Row number) = row_text (row_of number)
reading_text (Queued features high count) = queued_text features high count
