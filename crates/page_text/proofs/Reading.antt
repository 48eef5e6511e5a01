-- The sixteen numbers of page 11h, asked one after the other.
use Rattle.std.proofs.Common.{◌≡◌, ℕ, ◌+◌, ◌<◌, ◌≤◌, List, [], ◌∷◌, ◌++◌, length, drop, take, map, set, get_or, None, arith, refl, sym, ap, ◌∙◌, append_assoc, append-nil, add-one, drop-cons, Option, Result, Ok, Err, drop_of_length-le, take_all, ext_get_or}
use lib.Seq.{map-set_same}
use Rattle.std.proofs.lemmas.List.{take_more_set, get_or-map, length-map}
use Rattle.refusals.specs.declared.reasons.Refusal.{Refusal}
use Rattle.counters.specs.Rows.{ids}
use Rattle.counters.proofs.RowLaws.{length_ids}
use Rattle.pages.specs.Read11.{read_counter}
use Rattle.pages.specs.declared.value.CounterValue.{CounterValue}
use Rattle.page_text.specs.Counters.{Counter, in_front, counters_in}

-- ---- what was read so far, in front of what is read of the rest

abbrev pub behind : List Counter → Result (List Counter) Refusal → Result (List Counter) Refusal
behind read (Ok more) = Ok (read ++ more)
behind read (Err refusal) = Err refusal

behind_nil : (r : Result (List Counter) Refusal) → behind [] r ≡ r
behind_nil r = grind arith

behind_one : (read : List Counter) (number : ℕ) (counter : Option CounterValue) (r : Result (List Counter) Refusal) → behind read (in_front number (Ok counter) r) ≡ behind (read ++ (number, counter) ∷ []) r
behind_one read number counter (Ok more) = ap Ok (sym (append_assoc read ((number, counter) ∷ []) more))
behind_one read number counter (Err refusal) = refl

-- ---- the counters, each with its number, of which the first are read

abbrev number_of : Counter → ℕ
number_of counter = counter.0

-- the first n are read, and what the page says of all is these in front of what it says of the rest
pub record Reads (page : List ℕ) (counters : List Counter) (n : ℕ) : Type 0 where
  pub numbers : map number_of counters ≡ ids
  pub read : counters_in page ids ≡ behind (take n counters) (counters_in page (drop n ids))

-- none is read yet
pub reads_none : (page : List ℕ) (counters : List Counter) → length counters ≡ 16 → ((i : ℕ) → i < 16 → (get_or counters i (0, None)).0 ≡ get_or ids i 0) → Reads page counters 0
reads_none page counters l h = record {
  numbers = ext_get_or 0 (map number_of counters) ids (length-map counters number_of ∙ l ∙ sym length_ids) (λ i k. let k' : i < 16 = omega (arith, k, length-map counters number_of, l) in get_or-map number_of counters i (0, None) 0 (rw l k') ∙ h i k');
  read = sym (behind_nil (counters_in page ids));
}

module _ {page : List ℕ} {counters : List Counter} {n : ℕ} (s : Reads page counters n) where
  length_read : length counters ≡ 16
  length_read = sym (length-map counters number_of) ∙ ap length s.numbers ∙ length_ids

  -- all are read
  pub reads_all : 16 ≤ n → counters_in page ids ≡ Ok counters
  unfolding counters_in
  reads_all h =
      let d : drop n ids ≡ [] = drop_of_length-le ids {i = n} (rw length_ids h) in
      s.read ∙ rw (d, take_all n counters (rw length_read h)) (ap Ok (append-nil counters))

  module _ (h : n < 16) (r : Result (Option CounterValue) Refusal) (e : r ≡ read_counter page (get_or counters n (0, None)).0) where
    number_here : (get_or counters n (0, None)).0 ≡ get_or ids n 0
    number_here = sym (get_or-map number_of counters n (0, None) 0 (rw length_read h)) ∙ ap (λ numbers. get_or numbers n 0) s.numbers

    -- the numbers from here on
    rest : counters_in page (drop n ids) ≡ in_front (get_or counters n (0, None)).0 r (counters_in page (drop (n + 1) ids))
    unfolding counters_in
    rest = rw (drop-cons ids n 0 (rw length_ids h), e, number_here, add-one n) refl

    -- it is refused
    pub reads_refused : (refusal : Refusal) → r ≡ Err refusal → counters_in page ids ≡ Err refusal
    reads_refused refusal o = s.read ∙ rw (rest, o) refl

    -- it is read
    pub reads_one : (counter : Option CounterValue) → r ≡ Ok counter → Reads page (set counters n ((get_or counters n (0, None)).0, counter)) (n + 1)
    reads_one counter o = record {
      numbers = map-set_same number_of counters n _ (0, None) refl ∙ s.numbers;
      read = s.read ∙ rw (rest, o, take_more_set counters n ((get_or counters n (0, None)).0, counter) (rw length_read h)) (behind_one (take n counters) (get_or counters n (0, None)).0 counter _);
    }
