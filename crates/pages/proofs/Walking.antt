-- The reader's walk: an entry lies within 508 bytes and leads on, and one step of the walk is one entry of the page.
use Rattle.std.proofs.Common.{◌≡◌, refl, ap, ap₂, sym, ◌∙◌, Bool, true, false, List, [], ◌∷◌, ℕ, zero, suc, ◌+◌, ◌-◌, ◌<◌, ◌≤◌, length, arith, Option, Some, None, Result, Ok, Err, ◌||◌, ⊎_elim, min, leb, eqb, le-leb, le-ltb, eq-eqb}
use Rattle.std.proofs.lemmas.Bool.Decides.{nat_tests}
use Rattle.bits.specs.Pick.{pick}
use Rattle.bits.specs.Little.{le_at, NumberGiven}
use Rattle.bits.proofs.Picks.{pick_yes, pick_no, tested}
use Rattle.refusals.specs.First.{first_of, unless}
use Rattle.refusals.specs.declared.reasons.Refusal.{Refusal}
use Rattle.refusals.specs.declared.reasons.Refusal.TheVariants.{PageDamaged}
use Rattle.pages.specs.Sum.{sum256}
use Rattle.pages.specs.Entries.{CounterEntry, entry_at, id_at, end_of, bytes_in, wrong_width, past_end, id_asked, entries_from, entries}
use Rattle.pages.specs.Read11.{damaged, value_in, read_counter}
use Rattle.pages.specs.WalkStep.{faulty, walk_entry, step_at, place_after, Stepped}
use Rattle.pages.specs.declared.value.CounterValue.{CounterValue}
use Rattle.pages.specs.declared.walk.Walk.{Walk}
use Rattle.pages.specs.declared.walk.WalkEntry.{WalkEntry}
use Rattle.std.specs.Option.{is_some}
use Rattle.pages.proofs.Rest.{rest_of, rest_none, rest_fault, rest_hit, rest_twice, rest_miss}

-- a value is never wider than 8 bytes, so that the reader of numbers takes all of it
pub value_read : (page : List ℕ) (start len r : ℕ) → len ≤ 8 → NumberGiven page start (min len 8) r → r ≡ le_at page start len
value_read page start len r h n =
    let e : min len 8 ≡ len = omega arith in
    rw e at n.value

-- ---- where a row lies

pub record Lies (at start len : ℕ) : Type 0 where
  pub next : start ≡ at + 2
  pub some : 2 ≤ len
  pub most : len ≤ 8
  pub within : start + len ≤ 508

-- an entry whose width and end are right
sized : (e : CounterEntry) → (wrong_width e || past_end e) ≡ false → Lies e.place (e.place + 2) (bytes_in e.id)
sized e h = record { next = refl; some = grind (arith, nat_tests); most = grind (arith, nat_tests); within = grind (arith, nat_tests) }

-- where the value of an entry lies that a step finds
pub entry_lies : (page : List ℕ) (at : ℕ) (e : WalkEntry) → step_at page at ≡ Some (Ok e) → Lies at e.start e.bytes
unfolding step_at
entry_lies page at e q =
    let i : e ≡ walk_entry (id_at page at) (at + 2) (bytes_in (id_at page at)) = grind arith in
    rw i (sized (entry_at page at) (grind arith))

pub end_within : (page : List ℕ) (at : ℕ) (e : WalkEntry) → step_at page at ≡ Some (Ok e) → e.start + e.bytes ≤ 508
end_within page at e q = (entry_lies page at e q).within

-- what stands at a place leads on
pub leads_on : (page : List ℕ) (at : ℕ) (r : Result WalkEntry Refusal) → step_at page at ≡ Some r → 508 - place_after at (Some r) < 508 - at
unfolding step_at
leads_on page at (Ok e) q = let l = entry_lies page at e q in omega arith
leads_on page at (Err r) q = grind (arith, nat_tests)

-- ---- the entries from a place on

module _ (page : List ℕ) (at : ℕ) where
  -- the entries end here
  abbrev pub ends : Bool
  ends = leb 508 at || eqb (id_at page at) 0

  ends_508 : 508 ≤ at → ends ≡ true
  ends_508 h = simp (le-leb 508 at h)

  pub entries_end : (fuel : ℕ) → ends ≡ true → entries_from page fuel at ≡ []
  unfolding entries_from
  entries_end fuel h = grind arith

  -- a first entry, and some behind it
  pub entries_some : (fuel : ℕ) → ends ≡ false
      → entries_from page (suc fuel) at ≡ entry_at page at ∷ pick (wrong_width (entry_at page at) || past_end (entry_at page at)) [] (entries_from page fuel (end_of (entry_at page at)))
  unfolding entries_from
  entries_some fuel h = pick_no ends [] _ h

  pub entries_row : (fuel : ℕ) → ends ≡ false → faulty (entry_at page at) ≡ false
      → entries_from page (suc fuel) at ≡ entry_at page at ∷ entries_from page fuel (end_of (entry_at page at))
  unfolding entries_from
  entries_row fuel h s = grind arith

  pub step_end : ends ≡ true → step_at page at ≡ None
  unfolding step_at
  step_end h = pick_yes ends None _ h

  pub step_fault : ends ≡ false → faulty (entry_at page at) ≡ true → step_at page at ≡ Some (Err PageDamaged)
  unfolding step_at
  step_fault h s = pick_no ends None _ h ∙ ap Some (pick_yes (faulty (entry_at page at)) (Err PageDamaged) _ s)

  pub step_entry : ends ≡ false → faulty (entry_at page at) ≡ false → step_at page at ≡ Some (Ok (walk_entry (id_at page at) (at + 2) (bytes_in (id_at page at))))
  unfolding step_at
  step_entry h s = pick_no ends None _ h ∙ ap Some (pick_no (faulty (entry_at page at)) (Err PageDamaged) _ s)

same_tail : (b : Bool) (xs ys : List CounterEntry) → (b ≡ false → xs ≡ ys) → pick b [] xs ≡ pick b [] ys
same_tail b xs ys h = grind arith

-- any two fuels that are as much as the bytes that are left give the same entries: the fuel decides nothing
pub entries_fuel : (page : List ℕ) (f g at : ℕ) → 508 - at ≤ f → 508 - at ≤ g → entries_from page f at ≡ entries_from page g at
entries_fuel page zero g at h k = entries_end page at zero (ends_508 page at (omega arith)) ∙ sym (entries_end page at g (ends_508 page at (omega arith)))
entries_fuel page (suc f) zero at h k = entries_end page at (suc f) (ends_508 page at (omega arith)) ∙ sym (entries_end page at zero (ends_508 page at (omega arith)))
entries_fuel page (suc f) (suc g) at h k =
    ⊎_elim
    (λ (t : ends page at ≡ true). entries_end page at (suc f) t ∙ sym (entries_end page at (suc g) t))
    (λ (n : ends page at ≡ false).
    entries_some page at f n
    ∙ ap (λ (es : List CounterEntry). entry_at page at ∷ es)
    (same_tail (wrong_width (entry_at page at) || past_end (entry_at page at)) _ _
    (λ s.
    let l = sized (entry_at page at) s in
    entries_fuel page f g (end_of (entry_at page at)) (omega arith) (omega arith)))
    ∙ sym (entries_some page at g n))
    (tested (ends page at))

-- ---- one step of the walk is one entry

-- the answer from a place on, by the first entries there, with what is found so far
abbrev pub from_place : List ℕ → ℕ → ℕ → ℕ → Option CounterValue → Result (Option CounterValue) Refusal
from_place page number fuel at found = rest_of page number (entries_from page fuel at) found

-- the value of an entry as the walk finds it
abbrev pub read_of : List ℕ → WalkEntry → CounterValue
read_of page e = record { value = le_at page e.start e.bytes; bytes = e.bytes }

-- behind an entry that is asked for: its value is what is found, or it stands there twice
abbrev pub after_hit : (ℕ → Option CounterValue → Result (Option CounterValue) Refusal) → List ℕ → WalkEntry → Option CounterValue → Result (Option CounterValue) Refusal
after_hit go page e None = go (e.start + e.bytes) (Some (read_of page e))
after_hit go page e (Some v) = Err PageDamaged

-- the answer by what a step answers; `go` is the answer from a place on, with what is found so far
abbrev pub after_step : (ℕ → Option CounterValue → Result (Option CounterValue) Refusal) → List ℕ → ℕ → Option CounterValue → Option (Result WalkEntry Refusal) → Result (Option CounterValue) Refusal
after_step go page number found None = Ok found
after_step go page number found (Some (Err r)) = Err r
after_step go page number found (Some (Ok e)) = pick (id_asked number e.id.0) (after_hit go page e found) (go (e.start + e.bytes) found)

module _ (page : List ℕ) (number fuel at : ℕ) where
  -- the entry of a place as the walk answers it
  abbrev here : WalkEntry
  here = walk_entry (id_at page at) (at + 2) (bytes_in (id_at page at))

  entry_rest : (found : Option CounterValue) → faulty (entry_at page at) ≡ false
      → rest_of page number (entry_at page at ∷ entries_from page fuel (end_of (entry_at page at))) found
      ≡ after_step (from_place page number fuel) page number found (Some (Ok here))
  entry_rest None s =
      let es = entries_from page fuel (end_of (entry_at page at)) in
      grind (arith, rest_hit page number (entry_at page at) es s, rest_miss page number (entry_at page at) es None s)
  entry_rest (Some v) s =
      let es = entries_from page fuel (end_of (entry_at page at)) in
      grind (arith, rest_twice page number (entry_at page at) es v, rest_miss page number (entry_at page at) es (Some v) s)

  -- the answer from a place on, whatever the fuel, is what the step there answers, or the answer from where it leads
  pub turn_rest : (found : Option CounterValue) → rest_of page number (entries_from page (suc fuel) at) found ≡ after_step (from_place page number fuel) page number found (step_at page at)
  turn_rest found =
      ⊎_elim
      (λ (t : ends page at ≡ true). rw (entries_end page at (suc fuel) t, step_end page at t) (rest_none page number found))
      (λ (n : ends page at ≡ false).
      ⊎_elim
      (λ (f : faulty (entry_at page at) ≡ true). rw (entries_some page at fuel n, step_fault page at n f) (rest_fault page number (entry_at page at) _ found f))
      (λ (s : faulty (entry_at page at) ≡ false). rw (entries_row page at fuel n s, step_entry page at n s) (entry_rest found s))
      (tested (faulty (entry_at page at))))
      (tested (ends page at))

-- the answer from a place on by all the entries there
abbrev pub from_here : List ℕ → ℕ → ℕ → Option CounterValue → Result (Option CounterValue) Refusal
from_here page number at found = from_place page number (508 - at) at found

-- any fuel that is as much as the bytes that are left gives that answer
from_enough : (page : List ℕ) (number fuel at : ℕ) (found : Option CounterValue) → 508 - at ≤ fuel → from_place page number fuel at found ≡ from_here page number at found
from_enough page number fuel at found h = ap (λ (es : List CounterEntry). rest_of page number es found) (entries_fuel page fuel (508 - at) at h (omega arith))

-- so it is what the step there answers, or such an answer from where it leads
pub turn_here : (page : List ℕ) (number at : ℕ) (found : Option CounterValue) → from_here page number at found ≡ after_step (from_here page number) page number found (step_at page at)
turn_here page number at found =
    sym (from_enough page number (suc (508 - at)) at found (omega arith)) ∙ turn_rest page number (508 - at) at found ∙ led found (step_at page at) refl
  where
    further : (e : WalkEntry) (more : Option CounterValue) → step_at page at ≡ Some (Ok e) → from_place page number (508 - at) (e.start + e.bytes) more ≡ from_here page number (e.start + e.bytes) more
    further e more q =
        let l = entry_lies page at e q in
        from_enough page number (508 - at) (e.start + e.bytes) more (omega (arith, l.next))

    led : (more : Option CounterValue) (r : Option (Result WalkEntry Refusal)) → step_at page at ≡ r → after_step (from_place page number (508 - at)) page number more r ≡ after_step (from_here page number) page number more r
    led more None q = refl
    led more (Some (Err x)) q = refl
    led None (Some (Ok e)) q = ap₂ (pick (id_asked number e.id.0)) (further e (Some (read_of page e)) q) (further e None q)
    led (Some v) (Some (Ok e)) q = ap (pick (id_asked number e.id.0) (Err PageDamaged)) (further e (Some v) q)

-- ---- the walk from one step to the next

-- the answer for a counter's number, of a page that is refused for nothing else
abbrev pub asked_of : List ℕ → ℕ → Result (Option CounterValue) Refusal
asked_of page number = pick (damaged number (entries page)) (Err PageDamaged) (Ok (value_in page number (entries page)))

-- it starts at 4, with nothing found
pub walk_starts : (page : List ℕ) (number : ℕ) → asked_of page number ≡ from_here page number 4 None
unfolding entries rest_of
walk_starts page number = rw (entries_fuel page 508 504 4 (omega arith) (omega arith))

-- a walk over the page, with what is found so far: the answer is the answer from its place on
pub record Ahead (page : List ℕ) (number : ℕ) (w : Walk) (found : Option CounterValue) : Type 0 where
  pub same : w.page.now ≡ page
  pub rest : asked_of page number ≡ from_here page number w.at found

module _ {page : List ℕ} {number : ℕ} {w w' : Walk} {r : Option (Result WalkEntry Refusal)} {found : Option CounterValue} (a : Ahead page number w found) (t : Stepped w r w') where
  step_rest : asked_of page number ≡ after_step (from_here page number) page number found r
  step_rest = a.rest ∙ rw (t.answer, a.same) (turn_here page number w.at found)

  step_same : w'.page.now ≡ page
  step_same = rw t.page a.same

  pub fault_here : (x : Refusal) → r ≡ Some (Err x) → asked_of page number ≡ Err x
  fault_here x q = step_rest ∙ rw q

  pub end_here : r ≡ None → asked_of page number ≡ Ok found
  end_here q = step_rest ∙ rw q

  module _ (e : WalkEntry) (q : r ≡ Some (Ok e)) where
    next_at : w'.at ≡ e.start + e.bytes
    next_at = t.at ∙ rw q

    -- one that is not asked for is passed by
    pub miss_ahead : id_asked number e.id.0 ≡ false → Ahead page number w' found
    miss_ahead m = record { same = step_same; rest = step_rest ∙ rw (next_at, q, m) }

    -- the first that is asked for is found
    pub hit_ahead : (v : ℕ) → id_asked number e.id.0 ≡ true → is_some found ≡ false → NumberGiven page e.start (min e.bytes 8) v
        → Ahead page number w' (Some (record { value = v; bytes = e.bytes }))
    hit_ahead v h o n =
        let l = entry_lies w.page.now w.at e (sym t.answer ∙ q) in
        record { same = step_same; rest = step_rest ∙ rw (next_at, q, h, value_read page e.start e.bytes v l.most n) (first found o) }
      where
        first : (f : Option CounterValue) → is_some f ≡ false → after_hit (from_here page number) page e f ≡ from_here page number (e.start + e.bytes) (Some (read_of page e))
        first f o = grind arith

    -- and a second is a fault
    pub hit_twice : id_asked number e.id.0 ≡ true → is_some found ≡ true → asked_of page number ≡ Err PageDamaged
    hit_twice h o = step_rest ∙ rw (q, h) (second found o)
      where
        second : (f : Option CounterValue) → is_some f ≡ true → after_hit (from_here page number) page e f ≡ Err PageDamaged
        second f o = grind arith

-- the last rung alone: 22, or what is found
pub last_rung : (d : Bool) (v : Option CounterValue) → pick d (Err PageDamaged) (Ok v) ≡ unless (pick d (Some PageDamaged) None) v
last_rung d v = grind arith

-- a page that is refused neither for its length, nor for the number, nor for its sum is walked
pub reads_walk : (page : List ℕ) (number : ℕ) → length page ≡ 512 → 0 < number → number < 4096 → sum256 page ≡ 0 → read_counter page number ≡ from_here page number 4 None
unfolding read_counter first_of
reads_walk page number l p q s =
    simp (eq-eqb (length page) 512 l, le-ltb number 1 p, le-ltb 4095 number (omega arith), eq-eqb (sum256 page) 0 s)
    (sym (last_rung (damaged number (entries page)) (value_in page number (entries page))) ∙ walk_starts page number)

-- what the check needs of the walk that finds
pub ruleset finding = (walk_starts, end_here, miss_ahead, hit_ahead)
