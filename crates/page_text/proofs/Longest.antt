-- How long a page's text is at most.
use Rattle.std.proofs.Common.{◌≡◌, ℕ, ◌+◌, ◌*◌, ◌^◌, ◌<◌, ◌≤◌, Bool, true, List, [], ◌∷◌, length, get_or, refl, sym, ap, Option, Some, None, Ok, arith, length-append, decimal, codes, lt_of_lt_of_le, ltb, pow_mono, ltb-true}
use Rattle.std.proofs.lemmas.Fmt.{length-decimal-le}
use Rattle.std.specs.List.{list_all, count_by}
use Rattle.bits.specs.Little.{le_at, Bytes}
use Rattle.bits.specs.Answer.{bit_number}
use Rattle.bits.proofs.Littles.{le_lt}
use Rattle.bits.proofs.Picks.{and_left, and_right}
use Rattle.refusals.specs.First.{first_of}
use Rattle.refusals.proofs.FirstLaws.{unless_ok}
use Rattle.counters.specs.Rows.{ids}
use Rattle.pages.specs.Page10.{fields10, ladder10, read_log}
use Rattle.pages.specs.Others10.{others_in, count_other_bytes}
use Rattle.pages.proofs.OtherLaws10.{others_most as other-bytes-most}
use Rattle.pages.specs.declared.page10.ErrorLog.{ErrorLog}
use Rattle.pages.specs.Entries.{bytes_in, entries}
use Rattle.pages.specs.Read11.{read_counter}
use Rattle.pages.specs.Others11.{entry_other, count_others}
use Rattle.pages.proofs.Counting.{others_most}
use Rattle.pages.specs.declared.value.CounterValue.{CounterValue}
use Rattle.pages.proofs.Largest.{top_exactly}
use Rattle.pages.proofs.Values.{no_entry}
use Rattle.page_text.specs.Counters.{Counter, counters_in, shown_text, line_text, lines_text, others_text, told_text, counters_text}
use Rattle.page_text.specs.Fields.{tag_text, status_text, task_text, log_text, other_bytes_text, read_text, fields_text}
use Rattle.page_text.proofs.Pieces.{length_upper, refusal_most, by_both, others_text_most, other_bytes_text_most}
use Rattle.page_text.proofs.Answered.{front, others_answered}

-- a log whose values fit their bits
record Fits (log : ErrorLog) : Type 0 where
  tag : log.tag < 32
  status : log.status < 256
  error : log.error < 256
  lba : log.task.lba < 2 ^ 48
  device : log.task.device < 256
  count : log.task.count < 2 ^ 16

bit_most : (flag : Bool) → length (decimal (bit_number flag)) ≤ 1
bit_most flag = length-decimal-le 1 (bit_number flag) (omega arith) (grind arith) (grind arith)

log_most : (log : ErrorLog) → Fits log → length (log_text log) ≤ 74
unfolding log_text tag_text status_text task_text
log_most log f =
    let q = bit_most log.nq in
    let t = length-decimal-le 2 log.tag (omega arith) (omega (arith, f.tag)) (omega (arith, f.tag)) in
    let s = length_upper 2 log.status (omega arith) f.status in
    let e = length_upper 2 log.error (omega arith) f.error in
    let l = length_upper 12 log.task.lba (omega arith) (omega (arith, f.lba)) in
    let d = length_upper 2 log.task.device (omega arith) f.device in
    let n = length_upper 4 log.task.count (omega arith) (omega (arith, f.count)) in
    simp length-append (omega arith)

-- the numbers have three hex digits
abbrev ThreeDigits : List ℕ → Type 0
ThreeDigits numbers = list_all (λ n. ltb n 4096) numbers ≡ true

module _ (page : List ℕ) (bytes : Bytes page) where
  -- what is read of page 10h fits
  read_fits : Fits (fields10 page)
  read_fits = record {
    tag = grind arith;
    status = bytes 2;
    error = bytes 3;
    lba = omega (arith, le_lt page bytes 8 3, le_lt page bytes 4 3);
    device = bytes 7;
    count = omega (arith, le_lt page bytes 12 2);
  }

  log_told_most : (log : ErrorLog) (others : ℕ) → read_log page ≡ Ok log → count_other_bytes page ≡ Ok others → length (read_text (Ok (log, others))) ≤ 90
  unfolding read_log count_other_bytes
  log_told_most log others p q =
      let u = unless_ok (first_of (ladder10 page)) (fields10 page) log (sym p) in
      let v = unless_ok (first_of (ladder10 page)) (others_in page) others (sym q) in
      let f : length (log_text log) ≤ 74 = rw u.1 (log_most (fields10 page) read_fits) in
      let o = other_bytes_text_most others (omega (arith, v.1, other-bytes-most page)) in
      omega (arith, length-append (log_text log) (other_bytes_text others))

  -- page 10h: eleven bytes of a refusal, or 74 of the fields and 16 of the count
  pub fields_most : length (fields_text page) ≤ 90
  fields_most = by_both (λ r. length (read_text r) ≤ 90) (read_log page) (count_other_bytes page) (λ refusal. omega (arith, refusal_most refusal)) log_told_most

  module _ (number : ℕ) where
    -- a value of page 11h has 8 bytes at most
    pub value_lt : (v : CounterValue) → read_counter page number ≡ Ok (Some v) → v.value < 2 ^ 64
    value_lt v e =
        let f = (top_exactly page number v e).from in
        let entry = get_or (entries page) f.entry no_entry in
        let n = bytes_in entry.id in
        let k : v.value ≡ le_at page (entry.place + 2) n = ap (λ (x : CounterValue). x.value) f.value in
        rw k (lt_of_lt_of_le (le_lt page bytes (entry.place + 2) n) (pow_mono {i = 8 * n} {j = 64} (omega (arith, f.most))))

    -- `absent`, or twenty decimal digits and ` top`
    shown_most : (shown : Option CounterValue) → read_counter page number ≡ Ok shown → length (shown_text shown) ≤ 24
    shown_most None e = omega arith
    shown_most (Some v) e =
        let h = value_lt v e in
        let d = length-decimal-le 20 v.value (omega arith) (omega (arith, h)) h in
        grind (arith, d, length-append (decimal v.value) (codes " top"), length-append (decimal v.value) [])

    line_most : (shown : Option CounterValue) → number < 4096 → read_counter page number ≡ Ok shown → length (line_text (number, shown)) ≤ 30
    line_most shown h e =
        let u = length_upper 3 number (omega arith) h in
        let s = shown_most shown e in
        simp length-append (omega arith)

  lines_most : (numbers : List ℕ) (counters : List Counter) → ThreeDigits numbers → counters_in page numbers ≡ Ok counters → length (lines_text counters) ≤ 30 * length numbers
  unfolding counters_in
  lines_most [] counters h e = let z : counters ≡ [] = cc in rw z (omega arith)
  lines_most (number ∷ numbers) counters h e =
      let f = front number (read_counter page number) (counters_in page numbers) counters e in
      let l = line_most number f.first (ltb-true number 4096 (and_left _ _ h)) f.answered in
      let m : length (lines_text f.more) ≤ 30 * length numbers = lines_most numbers f.more (and_right (ltb number 4096) _ h) f.told in
      rw f.whole (omega (arith, length-append (line_text (number, f.first)) (lines_text f.more)))

  told_most : (counters : List Counter) (others : ℕ) → counters_in page ids ≡ Ok counters → count_others page ≡ Ok others → length (told_text (Ok (counters, others))) ≤ 491
  unfolding ids
  told_most counters others e q =
      let l : length (lines_text counters) ≤ 480 = lines_most ids counters refl e in
      let n : others ≡ count_by entry_other (entries page) = cc (others_answered page counters e) in
      let o = others_text_most others (omega (arith, n, others_most page)) in
      omega (arith, length-append (lines_text counters) (others_text others))

  -- page 11h: sixteen lines of 30 bytes, and 11 of the count
  pub counters_most : length (counters_text page) ≤ 491
  counters_most = by_both (λ r. length (told_text r) ≤ 491) (counters_in page ids) (count_others page) (λ refusal. omega (arith, refusal_most refusal)) told_most
