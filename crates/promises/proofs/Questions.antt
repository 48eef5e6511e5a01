-- What each question answers, of any state, and that no other answer is told.
use Rattle.std.proofs.Common.{◌≡◌, refl, sym, ap, subst, ◌∙◌, true, false, true≢false, ⊎_elim, ℕ, ◌/◌, ◌%◌, ◌^◌, ◌<◌, ◌⊎◌, cond, eqb, get_or, arith, Option, Some, None, Result, Ok, Err, mod-lt, lit<, eqb→eq}
use lib.Count.{ones}
use Rattle.bits.proofs.Picks.{tested, pick_yes, pick_no}
use Rattle.bits.proofs.Tables.{below_all, ones_tied}
use Rattle.refusals.specs.First.{first_of, Iff}
use Rattle.refusals.specs.declared.reasons.Refusal.{Refusal}
use Rattle.refusals.specs.declared.reasons.Refusal.TheVariants.{Contradiction, NoCounter}
use Rattle.counters.specs.Rows.{kept, row_of}
use Rattle.counters.specs.Shown.{on_row, shown_for}
use Rattle.counters.proofs.RowLaws.{row_found, row_only, row_missing, id_positive, id_small}
use Rattle.pages.specs.Read11.{no_number}
use Rattle.device.specs.Counter.{counter_of, count_of, CounterGiven, CountGiven}
use Rattle.device.specs.Device.{contradictory_device}
use Rattle.device.specs.declared.state.Device.{Device}
use Rattle.history.specs.Carried.{span}
use Rattle.promises.specs.Contradicts.{Contradicts}
use Rattle.promises.specs.Questions.{IsKeptRow, CounterTold, contradicting, no_counter, value, absent, tags_on, CountTold}
use Rattle.promises.proofs.Agrees.{none_holds, bit_on, on_bit, off_bit}
use Rattle.promises.proofs.Found.{some_holds}

-- ---- the ones of a mask are its bits that are on

-- the list of the tags has each in its own place
in_place : (t : ℕ) → t < 32 → get_or (span 0 32) t 0 ≡ t
unfolding span
in_place t l = eqb→eq _ _ (below_all 32 (λ k. eqb (get_or (span 0 32) k 0) k) tt t l)

-- a bit is 1 where it is on, else 0
bit_counts : (m t : ℕ) → m / 2 ^ t % 2 ≡ cond (eqb (m / 2 ^ t % 2) 1) 1 0
bit_counts m t = let l : m / 2 ^ t % 2 < 2 = mod-lt (m / 2 ^ t) (lit< tt) in grind arith

module _ (d : Device) where
  -- the clauses of the rules, and the test that the device goes by
  pub agrees : Iff (contradictory_device d ≡ true) (Contradicts d)
  agrees =
      (some_holds d, λ c. ⊎_elim (λ (b : contradictory_device d ≡ true). b) (λ (b : contradictory_device d ≡ false). absurd (none_holds d b c)) (tested (contradictory_device d)))

  -- any other state is one that the test lets pass
  pub lets_pass : (Contradicts d → ⊥) → contradictory_device d ≡ false
  lets_pass n = ⊎_elim (λ (b : contradictory_device d ≡ true). absurd (n (some_holds d b))) (λ (b : contradictory_device d ≡ false). b) (tested (contradictory_device d))

  ones_on : d.status.outstanding < 2 ^ 32 → ones d.status.outstanding ≡ tags_on d
  unfolding span
  ones_on w =
      ones_tied (λ t. cond (eqb (d.status.outstanding / 2 ^ t % 2) 1) 1 0) 0 (span 0 32) d.status.outstanding w
      (λ t l. rw (in_place t l) (bit_counts d.status.outstanding t))

  -- ---- the number of commands
  count_odd : contradictory_device d ≡ true → count_of d ≡ Err Contradiction
  unfolding count_of first_of
  count_odd h = rw h

  count_sound : contradictory_device d ≡ false → count_of d ≡ Ok (ones d.status.outstanding)
  unfolding count_of first_of
  count_sound h = rw h

  pub count_told : (c : Result ℕ Refusal) → CountGiven d c → CountTold d c
  count_told c p =
      ⊎_elim
      (λ (b : contradictory_device d ≡ true). subst (CountTold d) (sym (p.answer ∙ count_odd b)) (refl, some_holds d b))
      (λ (b : contradictory_device d ≡ false). subst (CountTold d) (sym (p.answer ∙ count_sound b)) (none_holds d b, ones_on))
      (tested (contradictory_device d))

  -- and no other answer is told
  pub count_only : (c : Result ℕ Refusal) → d.status.outstanding < 2 ^ 32 → CountTold d c → c ≡ count_of d
  count_only (Ok n) w t = ap Ok (t.1 w ∙ sym (ones_on w)) ∙ sym (count_sound (lets_pass t.0))
  count_only (Err e) w t = ap Err t.0 ∙ sym (count_odd (agrees.1 t.1))

  -- ---- a counter
  module _ (number : ℕ) where
    counter_odd : contradictory_device d ≡ true → counter_of d number ≡ Err Contradiction
    unfolding counter_of first_of
    counter_odd h = rw h

    counter_none : contradictory_device d ≡ false → no_number number ≡ true → counter_of d number ≡ Err NoCounter
    unfolding counter_of first_of
    counter_none h n = rw (h, n)

    counter_shown : contradictory_device d ≡ false → no_number number ≡ false → counter_of d number ≡ Ok (shown_for d.settings.mask d.values number)
    unfolding counter_of first_of
    counter_shown h n = rw (h, n)

    outside : no_number number ≡ true → (number ≡ 0) ⊎ (4095 < number)
    outside n = grind arith

    module _ (sound : Contradicts d → ⊥) (within : no_number number ≡ false) where
      none : ((row : ℕ) → IsKeptRow d number row → ⊥) → CounterTold d number (Ok None)
      none = absent sound (grind arith) (grind arith)

      -- a number has one row
      other_row : (k row : ℕ) → row_of number ≡ Some k → IsKeptRow d number row → kept d.settings.mask k ≡ true
      other_row k row e r =
          let same : Some row ≡ Some k = sym (row_found row r.0) ∙ ap row_of r.1 ∙ e in
          let at : row ≡ k = cc in
          subst (λ (j : ℕ). kept d.settings.mask j ≡ true) at (bit_on 16 d.settings.mask row r.0 r.2)

      by_row : (o : Option ℕ) → row_of number ≡ o → CounterTold d number (Ok (on_row d.settings.mask d.values o))
      unfolding on_row
      by_row None e = none (λ row r. row_missing number e row r.0 r.1)
      by_row (Some k) e =
          let has = row_only number k e in
          ⊎_elim
          (λ (b : kept d.settings.mask k ≡ true).
          subst (λ (v : Option ℕ). CounterTold d number (Ok v)) (sym (pick_yes (kept d.settings.mask k) (Some (get_or d.values k 0)) None b))
          (value sound k (has.0, has.1, (on_bit 16 d.settings.mask k b).1)))
          (λ (b : kept d.settings.mask k ≡ false).
          subst (λ (v : Option ℕ). CounterTold d number (Ok v)) (sym (pick_no (kept d.settings.mask k) (Some (get_or d.values k 0)) None b))
          (none (λ row r. true≢false (sym (other_row k row e r) ∙ b))))
          (tested (kept d.settings.mask k))

      shown : CounterTold d number (Ok (shown_for d.settings.mask d.values number))
      unfolding shown_for
      shown = by_row (row_of number) refl

    pub counter_told : (c : Result (Option ℕ) Refusal) → CounterGiven d number c → CounterTold d number c
    counter_told c p =
        ⊎_elim
        (λ (b : contradictory_device d ≡ true). subst (CounterTold d number) (sym (p.answer ∙ counter_odd b)) (contradicting (some_holds d b)))
        (λ (b : contradictory_device d ≡ false).
        ⊎_elim
        (λ (n : no_number number ≡ true). subst (CounterTold d number) (sym (p.answer ∙ counter_none b n)) (no_counter (none_holds d b) (outside n)))
        (λ (n : no_number number ≡ false). subst (CounterTold d number) (sym (p.answer ∙ counter_shown b n)) (shown (none_holds d b) n))
        (tested (no_number number)))
        (tested (contradictory_device d))

    -- ---- and no other answer is told
    out_of : (number ≡ 0) ⊎ (4095 < number) → no_number number ≡ true
    out_of o = grind arith

    -- the number of a row is 1 to FFFh
    named : (row : ℕ) → IsKeptRow d number row → no_number number ≡ false
    named row r =
        let low : 0 < number = subst (λ (n : ℕ). 0 < n) r.1 (id_positive row r.0) in
        let high : number < 4096 = subst (λ (n : ℕ). n < 4096) r.1 (id_small row r.0) in
        grind arith

    shown_value : (row : ℕ) → IsKeptRow d number row → shown_for d.settings.mask d.values number ≡ Some (get_or d.values row 0)
    unfolding shown_for on_row
    shown_value row r =
        ap (on_row d.settings.mask d.values) (ap row_of (sym r.1) ∙ row_found row r.0)
        ∙ pick_yes (kept d.settings.mask row) (Some (get_or d.values row 0)) None (bit_on 16 d.settings.mask row r.0 r.2)

    shown_absent : ((row : ℕ) → IsKeptRow d number row → ⊥) → (o : Option ℕ) → row_of number ≡ o → on_row d.settings.mask d.values o ≡ None
    unfolding on_row
    shown_absent never None e = refl
    shown_absent never (Some k) e =
        let has = row_only number k e in
        pick_no (kept d.settings.mask k) (Some (get_or d.values k 0)) None (off_bit 16 d.settings.mask k (λ _ on. never k (has.0, has.1, on)))

    pub counter_only : (c : Result (Option ℕ) Refusal) → CounterTold d number c → c ≡ counter_of d number
    unfolding shown_for
    counter_only c (contradicting k) = sym (counter_odd (agrees.1 k))
    counter_only c (no_counter n o) = sym (counter_none (lets_pass n) (out_of o))
    counter_only c (value n row r) = sym (counter_shown (lets_pass n) (named row r) ∙ ap Ok (shown_value row r))
    counter_only c (absent n low high never) = sym (counter_shown (lets_pass n) (grind arith) ∙ ap Ok (shown_absent never (row_of number) refl))
