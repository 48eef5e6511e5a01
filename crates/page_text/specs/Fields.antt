-- What is printed of page 10h.
use Rattle.std.specs.Prelude.{ℕ, List, ◌++◌, decimal, codes, Result, Ok, Err}
use Rattle.bits.specs.Answer.{bit_number}
use Rattle.refusals.specs.declared.reasons.Refusal.{Refusal}
use Rattle.frames.specs.declared.shared.Task.{Task}
use Rattle.pages.specs.Page10.{read_log}
use Rattle.pages.specs.Others10.{count_other_bytes}
use Rattle.pages.specs.declared.page10.ErrorLog.{ErrorLog}
use Rattle.page_text.specs.Words.{upper, refusal_text}
use Rattle.page_text.specs.Both.{both}

-- NQ and tag in decimal
unfoldable pub tag_text : ErrorLog → List ℕ
tag_text log =
    codes "NQ " ++ decimal (bit_number log.nq) ++ codes "\n"
    ++ codes "tag " ++ decimal log.tag ++ codes "\n"

-- status and error in two hex digits
unfoldable pub status_text : ErrorLog → List ℕ
status_text log =
    codes "status " ++ upper 2 log.status ++ codes "h\n"
    ++ codes "error " ++ upper 2 log.error ++ codes "h\n"

-- LBA in twelve hex digits, device in two, count in four
unfoldable pub task_text : Task → List ℕ
task_text task =
    codes "LBA " ++ upper 12 task.lba ++ codes "h\n"
    ++ codes "device " ++ upper 2 task.device ++ codes "h\n"
    ++ codes "count " ++ upper 4 task.count ++ codes "h\n"

unfoldable pub log_text : ErrorLog → List ℕ
log_text log = tag_text log ++ status_text log ++ task_text log.task

-- how many bytes of the page have a bit set that is neither these fields' nor the sum's [others-10h]
abbrev pub other_bytes_text : ℕ → List ℕ
other_bytes_text others = codes "other bytes " ++ decimal others ++ codes "\n"

-- the fields and the count of what they do not tell of, or the refusal alone
abbrev pub read_text : Result (ErrorLog × ℕ) Refusal → List ℕ
read_text (Ok told) = log_text told.0 ++ other_bytes_text told.1
read_text (Err refusal) = refusal_text refusal

-- what is told of page 10h, or why it is refused
abbrev pub log_told : List ℕ → Result (ErrorLog × ℕ) Refusal
log_told page = both (read_log page) (count_other_bytes page)

-- page 10h [text-10h]
abbrev pub fields_text : List ℕ → List ℕ
fields_text page = read_text (log_told page)
