-- What the reader of page 10h answers tells is what the bytes tell.
use Rattle.std.proofs.Common.{◌≡◌, refl, ◌∙◌, Bool, true, false, List, ℕ, ◌%◌, arith, get_or, eqb, bit_and, Result}
use lib.Bits.{and_mask}
use Rattle.bits.specs.Answer.{bit_number}
use Rattle.bits.specs.Pick.{pick}
use Rattle.bits.proofs.Masks.{and_two}
use Rattle.frames.proofs.ToldLaws.{bit_told}
use Rattle.refusals.specs.First.{first_of}
use Rattle.refusals.specs.Told.{answer_unless}
use Rattle.refusals.specs.declared.reasons.Refusal.{Refusal}
use Rattle.refusals.proofs.FirstLaws.{by_unless}
use Rattle.pages.specs.Told10.{nq_told, tag_told, record_told}
use Rattle.pages.specs.Page10.{nq_in, fields10, ladder10, read_log, log_answer}
use Rattle.pages.specs.declared.page10.ErrorLog.{ErrorLog}

-- what is named of byte 0 tells the tag, whatever the byte is
tag_of : (b : ℕ) (nq : Bool) → bit_and b (pick nq 0x80 0x9F) % 32 ≡ pick nq 0 (b % 32)
tag_of b true = rw (and_two b 5 4 0 (omega arith), and_mask (b % 32) 0) (omega arith)
tag_of b false = rw (and_two b 5 4 31 (omega arith), and_mask (b % 32) 5) (omega arith)

-- NQ as a number, and as a test of it
nq_test : (q : Bool) → eqb (bit_number q) 1 ≡ q
nq_test true = refl
nq_test false = refl

module _ (page : List ℕ) where
  nq_is : bit_number (nq_in page) ≡ nq_told page
  nq_is = bit_told (get_or page 0 0) 7 (omega arith)

  tag_is : (fields10 page).tag ≡ tag_told page
  tag_is = tag_of (get_or page 0 0) (nq_in page) ∙ rw (← nq_is, nq_test (nq_in page)) refl

  abbrev Tells : Result ErrorLog Refusal → Type 0
  Tells r = log_answer r ≡ answer_unless (first_of (ladder10 page)) (record_told page)

  pub log_tells : Tells (read_log page)
  unfolding read_log log_answer
  log_tells = by_unless Tells (first_of (ladder10 page)) (fields10 page) (λ refusal e. rw e refl) (λ e. rw (e, nq_is, tag_is) refl)
