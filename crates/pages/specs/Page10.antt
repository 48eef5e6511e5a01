-- Log page 10h as it is made and as it is read.
use Rattle.std.specs.Prelude.{◌≡◌, ℕ, ◌+◌, ◌/◌, ◌%◌, ◌^◌, Bool, not, ◌&&◌, ◌||◌, List, [], ◌∷◌, length, get_or, eqb, Result, Ok, Err}
use Rattle.bits.specs.Pick.{pick}
use Rattle.bits.specs.Bit.{bit_in, bit_byte}
use Rattle.bits.specs.Answer.{Answer, bit_number}
use Rattle.frames.specs.Layout.{Piece, byte, bits, number, unnamed, got, piece_at, bytes_of}
use Rattle.frames.specs.Shared.{task_at, is_below, task_fits}
use Rattle.refusals.specs.First.{Rung, first_of, rung, unless, refusal_in}
use Rattle.refusals.specs.Number.{number as refusal-number}
use Rattle.refusals.specs.Told.{answer_unless}
use Rattle.refusals.specs.declared.reasons.Refusal.{Refusal}
use Rattle.refusals.specs.declared.reasons.Refusal.TheVariants.{PageLength, PageSum, Unfit}
use Rattle.pages.specs.Sum.{sum256, sealed_page}
use Rattle.pages.specs.Told10.{record_told}
use Rattle.pages.specs.declared.page10.ErrorLog.{ErrorLog}

-- byte 0 bit 7 NQ, bits 4:0 tag [page-10h]
abbrev pub first_byte : Bool → ℕ → ℕ
first_byte nq tag = bit_byte nq 7 + tag % 32

-- of byte 0 NQ is named, and the tag, which says nothing under NQ; then status, error, LBA 0-23, device, LBA 24-47, count, and the sum byte [page-10h] [others-10h]
abbrev pub log_layout : Bool → List Piece
log_layout nq = bits (pick nq 0x80 0x9F) ∷ unnamed 1 ∷ byte ∷ byte ∷ number 3 ∷ byte ∷ number 3 ∷ unnamed 1 ∷ number 2 ∷ unnamed 497 ∷ byte ∷ []

-- the values of a record, with 0 for the sum byte
abbrev pub log_values : ErrorLog → List ℕ
log_values f = first_byte f.nq f.tag ∷ 0 ∷ f.status ∷ f.error ∷ f.task.lba % 2 ^ 24 ∷ f.task.device ∷ f.task.lba / 2 ^ 24 ∷ 0 ∷ f.task.count ∷ 0 ∷ 0 ∷ []

-- their bytes, of which 511 makes the sum [page-10h] [page-from-zeros]
unfoldable pub page10 : ErrorLog → List ℕ
page10 f = sealed_page (bytes_of (log_layout f.nq) (log_values f))

-- 25: a value too large for its bits, or a tag that is not 0 under NQ [refused-25] [unfit-tag]
unfoldable pub fits10 : ErrorLog → Bool
fits10 f = is_below 8 f.status && is_below 8 f.error && task_fits f.task && is_below 5 f.tag && (not f.nq || eqb f.tag 0)

-- the page by value, or 25 [refused-25]
abbrev pub log_page : ErrorLog → Result (List ℕ) Refusal
log_page f = pick (fits10 f) (Ok (page10 f)) (Err Unfit)

-- NQ is on in a page
abbrev pub nq_in : List ℕ → Bool
nq_in l = bit_in 8 (get_or l 0 0) 7

-- a record by the bytes with which the pieces begin; under NQ nothing stands in the tag's bits
abbrev pub log_at : Bool → (ℕ → ℕ) → ErrorLog
log_at nq at = record { nq = nq; tag = at 0 % 32; status = at 2; error = at 3; task = task_at at }

-- each named field as it stands [page-10h-read]
abbrev pub fields10 : List ℕ → ErrorLog
fields10 l = log_at (nq_in l) (λ at. got (piece_at (log_layout (nq_in l)) 0 at) l at)

-- 20: not 512 bytes; 21: sum wrong [refused-20] [refused-21]
abbrev pub ladder10 : List ℕ → List Rung
ladder10 l = rung PageLength (not (eqb (length l) 512)) ∷ rung PageSum (not (eqb (sum256 l) 0)) ∷ []

-- the fields, unless the page is refused [page-10h-read]
unfoldable pub read_log : List ℕ → Result ErrorLog Refusal
read_log l = unless (first_of (ladder10 l)) (fields10 l)

-- what each answer tells: NQ, tag, status, error and the command's bytes, or the refusal's number [answer-values]
unfoldable pub log_answer : Result ErrorLog Refusal → Answer
log_answer (Ok f) = record { number = 0; values = bit_number f.nq ∷ f.tag ∷ f.status ∷ f.error ∷ f.task.lba ∷ f.task.device ∷ f.task.count ∷ [] }
log_answer (Err r) = record { number = refusal-number r; values = [] }

-- what the reader promises: the fields or the refusal, the refusal exactly by its list, and the number and values that this tells [answer-values]
pub record LogGiven (l : List ℕ) (r : Result ErrorLog Refusal) : Type 0 where
  pub answer : r ≡ read_log l
  pub refusal : refusal_in r ≡ first_of (ladder10 l)
  pub told : log_answer r ≡ answer_unless (first_of (ladder10 l)) (record_told l)
