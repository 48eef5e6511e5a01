-- What the reader of page 11h answers tells is what the entries of the number tell.
use Rattle.std.proofs.Common.{◌≡◌, refl, ap, ◌∙◌, Bool, true, false, cond, List, [], ◌∷◌, ℕ, ◌+◌, ◌<◌, arith, ⊎_elim, Option, Some, None, Result, Ok, count_by, filter, flat_map}
use Rattle.std.proofs.lemmas.List.Concat.{flat_map-cons}
use Rattle.bits.proofs.Picks.{tested}
use Rattle.refusals.specs.First.{first_of}
use Rattle.refusals.specs.Told.{answer_with, answer_unless}
use Rattle.refusals.specs.declared.reasons.Refusal.{Refusal}
use Rattle.refusals.proofs.FirstLaws.{by_unless}
use Rattle.pages.specs.Entries.{CounterEntry, entry_asked, entries}
use Rattle.pages.specs.Told11.{entry_told, number_told}
use Rattle.pages.specs.Read11.{value_in, ladder11, read_counter, counter_answer}
use Rattle.pages.specs.declared.value.CounterValue.{CounterValue}
use Rattle.pages.proofs.Values.{count_more, found_once}

-- what is told of a value, or of none
abbrev values_of : Option CounterValue → List ℕ
values_of (Some v) = v.value ∷ v.bytes ∷ []
values_of None = []

module _ (page : List ℕ) (asked : ℕ) where
  abbrev told_by : List CounterEntry → List ℕ
  told_by es = flat_map (entry_told page) (filter (entry_asked asked) es)

  -- entries of which none has the number
  none_told : (es : List CounterEntry) → count_by (entry_asked asked) es < 1 → told_by es ≡ []
  none_told [] h = refl
  none_told (e ∷ es) h =
      let m = count_more asked e es in
      let r = none_told es (omega (arith, m)) in
      grind (arith, m, r)

  -- and of which at most one has it
  one_told : (es : List CounterEntry) → count_by (entry_asked asked) es < 2 → values_of (value_in page asked es) ≡ told_by es
  unfolding value_in
  one_told [] h = refl
  one_told (e ∷ es) h =
      ⊎_elim
      (λ (t : entry_asked asked e ≡ true).
      let m = count_more asked e es ∙ ap (λ (b : Bool). cond b 1 0 + count_by (entry_asked asked) es) t in
      let n = none_told es (omega (arith, m)) in
      rw (t, flat_map-cons (entry_told page) e (filter (entry_asked asked) es), n) refl)
      (λ (f : entry_asked asked e ≡ false).
      let m = count_more asked e es ∙ ap (λ (b : Bool). cond b 1 0 + count_by (entry_asked asked) es) f in
      rw f (one_told es (omega (arith, m))))
      (tested (entry_asked asked e))

  abbrev Tells : Result (Option CounterValue) Refusal → Type 0
  Tells r = counter_answer r ≡ answer_unless (first_of (ladder11 page asked)) (number_told page asked)

  pub counter_tells : Tells (read_counter page asked)
  unfolding read_counter counter_answer
  counter_tells =
      by_unless Tells (first_of (ladder11 page asked)) (value_in page asked (entries page)) (λ refusal e. rw e refl)
      (λ e. rw e (given (value_in page asked (entries page)) (one_told (entries page) (found_once page asked e))))
    where
      given : (o : Option CounterValue) → values_of o ≡ number_told page asked → counter_answer (Ok o) ≡ answer_with (number_told page asked)
      given (Some v) e = ap answer_with e
      given None e = ap answer_with e
