-- The count of the entries that are none of the sixteen counters, over the walk.
use Rattle.std.proofs.Common.{◌≡◌, refl, ap, sym, ◌∙◌, Bool, true, false, List, [], ◌∷◌, length, ℕ, zero, suc, ◌+◌, ◌-◌, ◌≤◌, Option, Some, None, Result, Ok, Err, cond, arith, eq-eqb, zero-add}
use Rattle.std.specs.List.{count_by}
use Rattle.std.proofs.lemmas.List.Sums.{sum_by-cons, count_by-le-length}
use Rattle.bits.specs.Pick.{pick}
use Rattle.bits.proofs.Picks.{pick_yes}
use Rattle.pages.specs.Sum.{sum256}
use Rattle.refusals.specs.First.{first_of, unless}
use Rattle.refusals.specs.declared.reasons.Refusal.{Refusal}
use Rattle.refusals.specs.declared.reasons.Refusal.TheVariants.{PageDamaged}
use Rattle.pages.specs.Entries.{CounterEntry, entry_at, id_at, bytes_in, end_of, entries_from, entries}
use Rattle.pages.specs.Read11.{any_fault, damaged, read_counter}
use Rattle.pages.specs.Others11.{id_other, entry_other, count_others}
use Rattle.pages.specs.WalkStep.{faulty, walk_entry, step_at, Stepped}
use Rattle.pages.specs.declared.value.CounterValue.{CounterValue}
use Rattle.pages.specs.declared.walk.Walk.{Walk}
use Rattle.pages.specs.declared.walk.WalkEntry.{WalkEntry}
use Rattle.pages.proofs.Rest.{fault_here, fault_not}
use Rattle.pages.proofs.Walking.{ends, entries_end, entries_some, entries_row, entries_fuel, step_end, step_fault, step_entry, entry_lies}

-- how many there are of these entries, with so many in front of them; or a fault
unfoldable pub counted : List CounterEntry → ℕ → Result ℕ Refusal
counted es n = pick (any_fault es) (Err PageDamaged) (Ok (n + count_by entry_other es))

counted_none : (n : ℕ) → counted [] n ≡ Ok n
unfolding counted
counted_none n = ap Ok (omega arith)

counted_fault : (e : CounterEntry) (es : List CounterEntry) (n : ℕ) → faulty e ≡ true → counted (e ∷ es) n ≡ Err PageDamaged
unfolding counted
counted_fault e es n h = pick_yes (any_fault (e ∷ es)) (Err PageDamaged) _ (fault_here e es h)

counted_more : (e : CounterEntry) (es : List CounterEntry) (n : ℕ) → faulty e ≡ false → counted (e ∷ es) n ≡ counted es (n + cond (entry_other e) 1 0)
unfolding counted
counted_more e es n h =
    let s = sum_by-cons (λ (x : CounterEntry). cond (entry_other x) 1 0) e es in
    let m : n + count_by entry_other (e ∷ es) ≡ n + cond (entry_other e) 1 0 + count_by entry_other es = omega (arith, s) in
    rw (fault_not e es h, m) refl

-- the entries from a place on
abbrev pub ahead : List ℕ → ℕ → List CounterEntry
ahead page at = entries_from page (508 - at) at

-- the count by what a step answers, and by the entries from where it leads
abbrev pub after_step : List ℕ → ℕ → Option (Result WalkEntry Refusal) → Result ℕ Refusal
after_step page n None = Ok n
after_step page n (Some (Err r)) = Err r
after_step page n (Some (Ok e)) = counted (ahead page (e.start + e.bytes)) (n + cond (id_other e.id.0) 1 0)

module _ (page : List ℕ) (at n : ℕ) where
  -- the entry of a place as the walk answers it
  abbrev here : WalkEntry
  here = walk_entry (id_at page at) (at + 2) (bytes_in (id_at page at))

  -- one more than as much fuel as there are bytes
  one_fuel : ahead page at ≡ entries_from page (suc (508 - at)) at
  one_fuel = entries_fuel page (508 - at) (suc (508 - at)) at (omega arith) (omega arith)

  row_step : ends page at ≡ false → faulty (entry_at page at) ≡ false → counted (ahead page at) n ≡ after_step page n (step_at page at)
  row_step more sound =
      let l = entry_lies page at here (step_entry page at more sound) in
      let es : ahead page at ≡ entry_at page at ∷ ahead page (here.start + here.bytes) =
      one_fuel ∙ entries_row page at (508 - at) more sound
      ∙ ap (λ (rest : List CounterEntry). entry_at page at ∷ rest) (entries_fuel page (508 - at) (508 - (here.start + here.bytes)) (here.start + here.bytes) (omega (arith, l.next)) (omega arith)) in
      ap (λ (rest : List CounterEntry). counted rest n) es
      ∙ counted_more (entry_at page at) (ahead page (here.start + here.bytes)) n sound
      ∙ ap (after_step page n) (sym (step_entry page at more sound))

  fault_step : ends page at ≡ false → faulty (entry_at page at) ≡ true → counted (ahead page at) n ≡ after_step page n (step_at page at)
  fault_step more fault =
      ap (λ (rest : List CounterEntry). counted rest n) (one_fuel ∙ entries_some page at (508 - at) more)
      ∙ counted_fault (entry_at page at) _ n fault
      ∙ ap (after_step page n) (sym (step_fault page at more fault))

  -- the count from a place on is by the step there
  pub turn : counted (ahead page at) n ≡ after_step page n (step_at page at)
  turn =
      let last = entries_end page at (508 - at) in
      let none = counted_none n in
      grind (arith, last, none, step_end page at, fault_step, row_step)

-- the count of a page that is refused for nothing but its entries
abbrev pub total : List ℕ → Result ℕ Refusal
total page = pick (any_fault (entries page)) (Err PageDamaged) (Ok (count_by entry_other (entries page)))

-- a walk over the page, with so many counted: the count is that of its place on; and each had a place of its own
pub record Counts (page : List ℕ) (w : Walk) (n : ℕ) : Type 0 where
  pub same : w.page.now ≡ page
  pub rest : total page ≡ counted (ahead page w.at) n
  pub most : n ≤ w.at

pub counts_start : (page : List ℕ) → total page ≡ counted (ahead page 4) 0
unfolding entries counted
counts_start page = rw (entries_fuel page 508 504 4 (omega arith) (omega arith), zero-add) refl

pub counts_none : (page : List ℕ) (w : Walk) → w.page.now ≡ page → w.at ≡ 4 → Counts page w 0
counts_none page w s a = record { same = s; rest = rw a (counts_start page); most = omega arith }

module _ {page : List ℕ} {w w' : Walk} {r : Option (Result WalkEntry Refusal)} {n : ℕ} (a : Counts page w n) (t : Stepped w r w') where
  step_rest : total page ≡ after_step page n r
  step_rest = a.rest ∙ rw (t.answer, a.same) (turn page w.at n)

  pub counts_fault : (x : Refusal) → r ≡ Some (Err x) → total page ≡ Err x
  counts_fault x q = step_rest ∙ ap (after_step page n) q

  pub counts_all : r ≡ None → total page ≡ Ok n
  counts_all q = step_rest ∙ ap (after_step page n) q

  module _ (e : WalkEntry) (q : r ≡ Some (Ok e)) where
    pub counts_one : Counts page w' (n + cond (id_other e.id.0) 1 0)
    counts_one =
        let l = entry_lies w.page.now w.at e (sym t.answer ∙ q) in
        let at : w'.at ≡ e.start + e.bytes = t.at ∙ rw q refl in
        let one : cond (id_other e.id.0) 1 0 ≤ 1 = grind arith in
        record {
          same = rw t.page a.same;
          rest = step_rest ∙ ap (after_step page n) q ∙ rw at refl;
          most = omega (arith, at, one, a.most, l.next, l.some);
        }

    pub counts_other : id_other e.id.0 ≡ true → Counts page w' (n + 1)
    counts_other h = let c = counts_one in rw h at c

    pub counts_row : id_other e.id.0 ≡ false → Counts page w' n
    counts_row h = let c = counts_one in let z : n + cond (id_other e.id.0) 1 0 ≡ n = rw h (omega arith) in rw z at c

-- ---- the count of a page that is not refused for its length or its sum

last_rung : (fault : Bool) (n : ℕ) → unless (pick fault (Some PageDamaged) None) n ≡ pick fault (Err PageDamaged) (Ok n)
last_rung fault n = grind arith

pub counts_total : (page : List ℕ) → length page ≡ 512 → sum256 page ≡ 0 → count_others page ≡ total page
unfolding count_others first_of
counts_total page l s = rw (eq-eqb (length page) 512 l, eq-eqb (sum256 page) 0 s) (last_rung (any_fault (entries page)) (count_by entry_other (entries page)))

-- ---- how many there can be, and that no page is refused for them alone

entries_most : (page : List ℕ) (fuel at : ℕ) → length (entries_from page fuel at) ≤ fuel
unfolding entries_from
entries_most page zero at = omega arith
entries_most page (suc fuel) at = grind (arith, entries_most page fuel (end_of (entry_at page at)))

pub others_most : (page : List ℕ) → count_by entry_other (entries page) ≤ 508
unfolding entries
others_most page = omega (arith, count_by-le-length entry_other (entries_from page 508 4), entries_most page 508 4)

-- where a counter is told, so is the count
pub counted_where_read : (page : List ℕ) (number : ℕ) (v : Option CounterValue) → read_counter page number ≡ Ok v → count_others page ≡ Ok (count_by entry_other (entries page))
unfolding read_counter count_others damaged first_of
counted_where_read page number v e = grind arith

-- what the check needs of the walk that counts
pub ruleset counting = (counts_none, counts_all, counts_other, counts_row)
