-- Where the sixteen lines of page 11h are told, each is the page's own answer for its number, and none is a refusal.
use Rattle.std.proofs.Common.{◌≡◌, ℕ, zero, suc, ◌<◌, List, [], ◌∷◌, length, get_or, refl, Option, None, Result, Ok, Err, arith}
use Rattle.std.specs.List.{count_by}
use Rattle.refusals.specs.declared.reasons.Refusal.{Refusal}
use Rattle.counters.specs.Rows.{ids, id_of}
use Rattle.counters.proofs.RowLaws.{length_ids}
use Rattle.pages.specs.Entries.{entries}
use Rattle.pages.specs.Read11.{read_counter}
use Rattle.pages.specs.Others11.{entry_other, count_others}
use Rattle.pages.specs.declared.value.CounterValue.{CounterValue}
use Rattle.pages.proofs.Counting.{counted_where_read}
use Rattle.page_text.specs.Counters.{Counter, in_front, counters_in}

-- a counter that is told is the number asked, and what the page says of it
pub record IsAnswered (page : List ℕ) (number : ℕ) (counter : Counter) : Type 0 where
  pub asked : counter.0 ≡ number
  pub answer : read_counter page number ≡ Ok counter.1

-- where a list is told, its first is answered, and so are those behind it
pub record Front (number : ℕ) (answer : Result (Option CounterValue) Refusal) (rest : Result (List Counter) Refusal) (counters : List Counter) : Type 0 where
  pub first : Option CounterValue
  pub more : List Counter
  pub answered : answer ≡ Ok first
  pub told : rest ≡ Ok more
  pub whole : counters ≡ (number, first) ∷ more

pub front : (number : ℕ) (answer : Result (Option CounterValue) Refusal) (rest : Result (List Counter) Refusal) (counters : List Counter) → in_front number answer rest ≡ Ok counters → Front number answer rest counters
front number (Ok first) (Ok more) counters e = record { first = first; more = more; answered = refl; told = refl; whole = cc }
front number (Ok first) (Err refusal) counters e = absurd (cc)
front number (Err refusal) rest counters e = absurd (cc)

each : (page numbers : List ℕ) (counters : List Counter) → counters_in page numbers ≡ Ok counters → (i : ℕ) → i < length numbers → IsAnswered page (get_or numbers i 0) (get_or counters i (0, None))
unfolding counters_in
each page [] counters e i h = absurd (omega arith)
each page (number ∷ numbers) counters e zero h =
    let f = front number (read_counter page number) (counters_in page numbers) counters e in
    rw f.whole (record { asked = refl; answer = f.answered })
each page (number ∷ numbers) counters e (suc i) h =
    let f = front number (read_counter page number) (counters_in page numbers) counters e in
    rw f.whole (each page numbers f.more f.told i (omega arith))

-- each row is told
pub answered : (page : List ℕ) (counters : List Counter) → counters_in page ids ≡ Ok counters → (row : ℕ) → row < 16 → IsAnswered page (id_of row) (get_or counters row (0, None))
answered page counters e row h = each page ids counters e row (omega (arith, length_ids))

-- no row is refused
pub never_refused : (page : List ℕ) (counters : List Counter) → counters_in page ids ≡ Ok counters → (row : ℕ) (refusal : Refusal) → row < 16 → read_counter page (id_of row) ≡ Err refusal → ⊥
never_refused page counters e row refusal h r = let a = answered page counters e row h in cc (a.answer)

-- the count of the entries that are none of them refuses no page of which they are told
pub others_answered : (page : List ℕ) (counters : List Counter) → counters_in page ids ≡ Ok counters → count_others page ≡ Ok (count_by entry_other (entries page))
others_answered page counters e = counted_where_read page (id_of 0) (get_or counters 0 (0, None)).1 (answered page counters e 0 (omega arith)).answer
