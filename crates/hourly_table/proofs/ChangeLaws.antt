-- A change is told exactly where it was counted, and the field is empty in each case in which it was not.
use Rattle.std.proofs.Common.{◌≡◌, refl, sym, ap, ◌∙◌, ℕ, ◌+◌, ◌-◌, ◌<◌, ◌^◌, Bool, true, false, ◌||◌, if◌then◌else◌, ltb, List, [], lit<, Option, Some, None, Result, Ok, Err, arith, ltb-false, lt-ltb, le-ltb, ⊎_elim, codes, decimal}
use Rattle.std.proofs.lemmas.Fmt.{decimal_injective, decimal_digit}
use Rattle.bits.proofs.Picks.{tested, or_left, or_right}
use Rattle.refusals.specs.First.{Iff}
use Rattle.refusals.specs.declared.reasons.Refusal.{Refusal}
use Rattle.pages.specs.Read11.{read_counter}
use Rattle.pages.specs.Top.{at_top}
use Rattle.pages.specs.declared.value.CounterValue.{CounterValue}
use Rattle.hourly_table.specs.Samples.{Sampled, page_of_hour, page_before}
use Rattle.hourly_table.specs.Changes.{change, change_read, between, change_in}
use Rattle.hourly_table.specs.Counted.{Counted}
use Rattle.hourly_table.specs.Rows.{field_text}

-- ---- two values

change_some : (old new : CounterValue) (c : ℕ) → change old new ≡ Some c → (at_top old ≡ false) × (at_top new ≡ false) × (new.value ≡ old.value + c)
change_some old new c e =
    ⊎_elim
    (λ (t : (ltb new.value old.value || at_top old) || at_top new ≡ true). absurd (let z : None ≡ Some c = rw t at e in cc))
    (λ (f : (ltb new.value old.value || at_top old) || at_top new ≡ false).
    let z : Some (new.value - old.value) ≡ Some c = rw f at e in
    let d : new.value - old.value ≡ c = cc in
    let front = or_left (ltb new.value old.value || at_top old) (at_top new) f in
    let low = ltb-false new.value old.value (or_left (ltb new.value old.value) (at_top old) front) in
    (or_right (ltb new.value old.value) (at_top old) front, or_right (ltb new.value old.value || at_top old) (at_top new) f, omega arith))
    (tested ((ltb new.value old.value || at_top old) || at_top new))

some_change : (old new : CounterValue) (c : ℕ) → at_top old ≡ false → at_top new ≡ false → new.value ≡ old.value + c → change old new ≡ Some c
some_change old new c o n e = rw (le-ltb new.value old.value (omega arith), o, n) (ap Some (omega arith))

-- ---- two answers of the reader, and two pages

pub record Both (old-read new-read : Result (Option CounterValue) Refusal) (c : ℕ) : Type 0 where
  pub old : CounterValue
  pub new : CounterValue
  pub old_is : old-read ≡ Ok (Some old)
  pub new_is : new-read ≡ Ok (Some new)
  pub told : change old new ≡ Some c

both_read : (a b : Result (Option CounterValue) Refusal) (c : ℕ) → change_read a b ≡ Some c → Both a b c
both_read (Ok (Some old)) (Ok (Some new)) c e = record { old = old; new = new; old_is = refl; new_is = refl; told = e }
both_read (Ok (Some old)) (Ok None) c e = absurd (let z : None ≡ Some c = e in cc)
both_read (Ok (Some old)) (Err r) c e = absurd (let z : None ≡ Some c = e in cc)
both_read (Ok None) b c e = absurd (let z : None ≡ Some c = e in cc)
both_read (Err r) b c e = absurd (let z : None ≡ Some c = e in cc)

pub record Pages (number : ℕ) (before page : Option (List ℕ)) (c : ℕ) : Type 0 where
  pub old : List ℕ
  pub new : List ℕ
  pub old_is : before ≡ Some old
  pub new_is : page ≡ Some new
  pub told : change_read (read_counter old number) (read_counter new number) ≡ Some c

both_pages : (number : ℕ) (before page : Option (List ℕ)) (c : ℕ) → between number before page ≡ Some c → Pages number before page c
both_pages number (Some old) (Some new) c e = record { old = old; new = new; old_is = refl; new_is = refl; told = e }
both_pages number (Some old) None c e = absurd (let z : None ≡ Some c = e in cc)
both_pages number None page c e = absurd (let z : None ≡ Some c = e in cc)

no_page : (number : ℕ) (before : Option (List ℕ)) → between number before None ≡ None
no_page number None = refl
no_page number (Some old) = refl

none_read : (a : Result (Option CounterValue) Refusal) → change_read a (Ok None) ≡ None
none_read (Ok (Some old)) = refl
none_read (Ok None) = refl
none_read (Err r) = refl

either_top : (a c : Bool) (o : Option ℕ) → (if (a || true) || c then None else o) ≡ None
either_top true c o = refl
either_top false c o = refl

last_top : (a : Bool) (o : Option ℕ) → (if a || true then None else o) ≡ None
last_top true o = refl
last_top false o = refl

-- ---- the change in an hour

module _ (samples : List Sampled) (hour number : ℕ) where
  counted : (c : ℕ) → change_in samples hour number ≡ Some c → Counted samples hour number c
  unfolding change_in
  counted c e =
      let p = both_pages number (page_before samples hour) (page_of_hour samples hour) c e in
      let v = both_read (read_counter p.old number) (read_counter p.new number) c p.told in
      let k = change_some v.old v.new c v.told in
      record {
        page_before_it = p.old;
        page_of_it = p.new;
        old = v.old;
        new = v.new;
        stood = p.old_is;
        stands = p.new_is;
        old_read = v.old_is;
        new_read = v.new_is;
        old_below = k.0;
        new_below = k.1;
        more = k.2;
      }

  told : (c : ℕ) → Counted samples hour number c → change_in samples hour number ≡ Some c
  unfolding change_in
  told c k = rw (k.stood, k.stands, k.old_read, k.new_read) (some_change k.old k.new c k.old_below k.new_below k.more)

  -- a change is told exactly where it was counted
  pub change_exactly : (c : ℕ) → Iff (change_in samples hour number ≡ Some c) (Counted samples hour number c)
  change_exactly c = (counted c, told c)

  zero_text : decimal 0 ≡ codes "0"
  zero_text = decimal_digit 0 (lit< tt)

  zero_field : (o : Option ℕ) → ((c : ℕ) → o ≡ Some c → c < 2 ^ 64) → field_text o ≡ codes "0" → o ≡ Some 0
  zero_field None small e = absurd (let z : [] ≡ codes "0" = e in cc)
  zero_field (Some c) small e = ap Some (decimal_injective c 0 (small c refl) (omega arith) (e ∙ sym zero_text))

  -- a field is `0` exactly where both hours have a value, below the top, and the same one
  pub zero_exactly : ((c : ℕ) → change_in samples hour number ≡ Some c → c < 2 ^ 64) → Iff (field_text (change_in samples hour number) ≡ codes "0") (Counted samples hour number 0)
  zero_exactly small = (λ e. counted 0 (zero_field (change_in samples hour number) small e), λ k. ap field_text (told 0 k) ∙ zero_text)

  -- ---- each reason by itself

  pub empty_here : page_of_hour samples hour ≡ None → change_in samples hour number ≡ None
  unfolding change_in
  empty_here e = rw e (no_page number (page_before samples hour))

  pub empty_before : page_before samples hour ≡ None → change_in samples hour number ≡ None
  unfolding change_in
  empty_before e = rw e refl

  -- the pages that stand
  module _ (before page : List ℕ) (stood : page_before samples hour ≡ Some before) (stands : page_of_hour samples hour ≡ Some page) where
    pub empty_absent_before : read_counter before number ≡ Ok None → change_in samples hour number ≡ None
    unfolding change_in
    empty_absent_before e = rw (stood, stands, e) refl

    pub empty_absent : read_counter page number ≡ Ok None → change_in samples hour number ≡ None
    unfolding change_in
    empty_absent e = rw (stood, stands, e) (none_read (read_counter before number))

    module _ (old new : CounterValue) (old_read : read_counter before number ≡ Ok (Some old)) (new_read : read_counter page number ≡ Ok (Some new)) where
      pub empty_fallen : new.value < old.value → change_in samples hour number ≡ None
      unfolding change_in
      empty_fallen h = rw (stood, stands, old_read, new_read, lt-ltb new.value old.value h) refl

      pub empty_old_top : at_top old ≡ true → change_in samples hour number ≡ None
      unfolding change_in
      empty_old_top t = rw (stood, stands, old_read, new_read, t) (either_top (ltb new.value old.value) (at_top new) (Some (new.value - old.value)))

      pub empty_new_top : at_top new ≡ true → change_in samples hour number ≡ None
      unfolding change_in
      empty_new_top t = rw (stood, stands, old_read, new_read, t) (last_top (ltb new.value old.value || at_top old) (Some (new.value - old.value)))
