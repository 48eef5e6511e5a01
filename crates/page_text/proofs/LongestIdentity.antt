-- How long the text of a page of IDENTIFY DEVICE is at most.
use Rattle.std.proofs.Common.{ℕ, ◌+◌, ◌%◌, ◌^◌, ◌<◌, ◌≤◌, List, length, Option, Some, None, Result, arith, length-append}
use Rattle.std.proofs.lemmas.Fmt.{length-decimal-le}
use Rattle.bits.specs.Little.{le_at, Bytes}
use Rattle.bits.proofs.Littles.{le_lt}
use Rattle.bits.proofs.Picks.{by_test}
use Rattle.refusals.specs.First.{first_of}
use Rattle.refusals.specs.declared.reasons.Refusal.{Refusal}
use Rattle.refusals.proofs.FirstLaws.{by_unless}
use Rattle.identity.specs.Read.{word_in, tells_queue, tells_capacity, queue_told, capacity_told, told_by, ladder_identity, read_identity}
use Rattle.identity.specs.declared.reading.Identified.{Identified}
use Rattle.page_text.specs.Identity.{number_text, queue_text, sectors_text, lines_of, identity_text, identified_text}
use Rattle.page_text.proofs.Pieces.{refusal_most}

module _ (page : List ℕ) (bytes : Bytes page) where
  -- `untold`, or two digits
  queue_most : length (number_text (queue_told page)) ≤ 6
  queue_most =
      let n : ℕ = word_in page 75 % 32 + 1 in
      let d = length-decimal-le 2 n (omega arith) (omega arith) (omega arith) in
      by_test (λ (told : Option ℕ). length (number_text told) ≤ 6) (tells_queue (word_in page 76)) (Some n) None (λ _. omega (arith, d)) (λ _. omega arith)

  -- `untold`, or twenty
  sectors_most : length (number_text (capacity_told page)) ≤ 20
  sectors_most =
      let n : ℕ = le_at page 200 8 in
      let h : n < 2 ^ 64 = le_lt page bytes 200 8 in
      let d = length-decimal-le 20 n (omega arith) (omega (arith, h)) h in
      by_test (λ (told : Option ℕ). length (number_text told) ≤ 20) (tells_capacity (word_in page 83)) (Some n) None (λ _. d) (λ _. omega arith)

  lines_most : length (lines_of (told_by page)) ≤ 48
  unfolding queue_text sectors_text
  lines_most =
      let q = queue_most in
      let s = sectors_most in
      simp length-append (omega arith)

  -- eleven bytes of a refusal, or two lines
  pub identified_most : length (identified_text page) ≤ 48
  unfolding read_identity
  identified_most =
      by_unless (λ (r : Result Identified Refusal). length (identity_text r) ≤ 48) (first_of (ladder_identity page)) (told_by page)
      (λ refusal _. omega (arith, refusal_most refusal)) (λ _. lines_most)
