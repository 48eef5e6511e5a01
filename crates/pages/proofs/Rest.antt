-- The answer for a list of entries, with what is found so far, entry by entry: from it the four clauses of refusal 22 follow.
use Rattle.std.proofs.Common.{◌≡◌, refl, ap, sym, ◌∙◌, Bool, true, false, List, [], ◌∷◌, ℕ, suc, Option, Some, None, Result, Ok, Err, cond, ◌||◌, one-add, zero-add, leb, arith}
use Rattle.std.specs.List.{count_by}
use Rattle.std.proofs.lemmas.List.Sums.{sum_by-cons}
use mathlib.Core.Bool.{or-true}
use lib.Dec.{leb-zero, leb-suc-suc}
use Rattle.bits.specs.Pick.{pick}
use Rattle.bits.proofs.Picks.{pick_yes}
use Rattle.refusals.specs.declared.reasons.Refusal.{Refusal}
use Rattle.refusals.specs.declared.reasons.Refusal.TheVariants.{PageDamaged}
use Rattle.pages.specs.Entries.{CounterEntry, entry_asked}
use Rattle.pages.specs.Read11.{any_fault, damaged, value_of, value_in}
use Rattle.pages.specs.WalkStep.{faulty}
use Rattle.pages.specs.declared.value.CounterValue.{CounterValue}

-- one more hit is one too many
unfoldable pub spoilt : ℕ → List CounterEntry → Bool
spoilt number es = any_fault es || leb 1 (count_by (entry_asked number) es)

-- with nothing found so far, the answer that the definition gives; with something found, that, unless the rest spoils it
unfoldable pub rest_of : List ℕ → ℕ → List CounterEntry → Option CounterValue → Result (Option CounterValue) Refusal
rest_of page number es None = pick (damaged number es) (Err PageDamaged) (Ok (value_in page number es))
rest_of page number es (Some v) = pick (spoilt number es) (Err PageDamaged) (Ok (Some v))

-- an entry that may not stand there is a fault of the list, and any other none
pub fault_here : (e : CounterEntry) (es : List CounterEntry) → faulty e ≡ true → any_fault (e ∷ es) ≡ true
fault_here e es h = grind arith

pub fault_not : (e : CounterEntry) (es : List CounterEntry) → faulty e ≡ false → any_fault (e ∷ es) ≡ any_fault es
fault_not e es h = grind arith

damaged_any : (number : ℕ) (es : List CounterEntry) → damaged number es ≡ any_fault es || leb 2 (count_by (entry_asked number) es)
unfolding damaged
damaged_any number es = refl

module _ (number : ℕ) (e : CounterEntry) (es : List CounterEntry) where
  many_hit : entry_asked number e ≡ true → count_by (entry_asked number) (e ∷ es) ≡ suc (count_by (entry_asked number) es)
  many_hit h = sum_by-cons (λ (x : CounterEntry). cond (entry_asked number x) 1 0) e es ∙ rw h (one-add (count_by (entry_asked number) es))

  many_miss : entry_asked number e ≡ false → count_by (entry_asked number) (e ∷ es) ≡ count_by (entry_asked number) es
  many_miss h = sum_by-cons (λ (x : CounterEntry). cond (entry_asked number x) 1 0) e es ∙ rw h (zero-add (count_by (entry_asked number) es))

  damaged_fault : faulty e ≡ true → damaged number (e ∷ es) ≡ true
  damaged_fault h = damaged_any number (e ∷ es) ∙ ap (λ (b : Bool). b || leb 2 (count_by (entry_asked number) (e ∷ es))) (fault_here e es h)

  spoilt_fault : faulty e ≡ true → spoilt number (e ∷ es) ≡ true
  unfolding spoilt
  spoilt_fault h = ap (λ (b : Bool). b || leb 1 (count_by (entry_asked number) (e ∷ es))) (fault_here e es h)

  -- behind a hit, another one is one too many
  damaged_hit : faulty e ≡ false → entry_asked number e ≡ true → damaged number (e ∷ es) ≡ spoilt number es
  unfolding spoilt
  damaged_hit s h = damaged_any number (e ∷ es) ∙ rw (fault_not e es s, many_hit h, leb-suc-suc 1 (count_by (entry_asked number) es))

  spoilt_hit : entry_asked number e ≡ true → spoilt number (e ∷ es) ≡ true
  unfolding spoilt
  spoilt_hit h = rw (many_hit h, leb-suc-suc 0 (count_by (entry_asked number) es), leb-zero (count_by (entry_asked number) es)) (or-true (any_fault (e ∷ es)))

  damaged_miss : faulty e ≡ false → entry_asked number e ≡ false → damaged number (e ∷ es) ≡ damaged number es
  damaged_miss s h = damaged_any number (e ∷ es) ∙ rw (fault_not e es s, many_miss h) (sym (damaged_any number es))

  spoilt_miss : faulty e ≡ false → entry_asked number e ≡ false → spoilt number (e ∷ es) ≡ spoilt number es
  unfolding spoilt
  spoilt_miss s h = rw (fault_not e es s, many_miss h)

module _ (page : List ℕ) (number : ℕ) where
  pub rest_none : (found : Option CounterValue) → rest_of page number [] found ≡ Ok found
  unfolding rest_of damaged spoilt value_in
  rest_none found = grind arith

  module _ (e : CounterEntry) (es : List CounterEntry) where
    value_hit : entry_asked number e ≡ true → value_in page number (e ∷ es) ≡ Some (value_of page e)
    unfolding value_in
    value_hit h = rw h

    value_miss : entry_asked number e ≡ false → value_in page number (e ∷ es) ≡ value_in page number es
    unfolding value_in
    value_miss h = rw h

    pub rest_fault : (found : Option CounterValue) → faulty e ≡ true → rest_of page number (e ∷ es) found ≡ Err PageDamaged
    unfolding rest_of
    rest_fault None h = pick_yes (damaged number (e ∷ es)) (Err PageDamaged) _ (damaged_fault number e es h)
    rest_fault (Some v) h = pick_yes (spoilt number (e ∷ es)) (Err PageDamaged) _ (spoilt_fault number e es h)

    -- a first hit is what is found from here on
    pub rest_hit : faulty e ≡ false → entry_asked number e ≡ true → rest_of page number (e ∷ es) None ≡ rest_of page number es (Some (value_of page e))
    unfolding rest_of
    rest_hit s h = rw (damaged_hit number e es s h, value_hit h)

    -- a second hit is a fault
    pub rest_twice : (v : CounterValue) → entry_asked number e ≡ true → rest_of page number (e ∷ es) (Some v) ≡ Err PageDamaged
    unfolding rest_of
    rest_twice v h = pick_yes (spoilt number (e ∷ es)) (Err PageDamaged) _ (spoilt_hit number e es h)

    -- an entry that is not asked for changes nothing
    pub rest_miss : (found : Option CounterValue) → faulty e ≡ false → entry_asked number e ≡ false → rest_of page number (e ∷ es) found ≡ rest_of page number es found
    unfolding rest_of
    rest_miss None s h = rw (damaged_miss number e es s h, value_miss h)
    rest_miss (Some v) s h = rw (spoilt_miss number e es s h)
