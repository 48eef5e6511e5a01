-- Of a state that the device's own test does not let pass some clause of the rules holds.
use Rattle.std.proofs.Common.{◌≡◌, refl, sym, ◌∙◌, Bool, true, false, ◌||◌, true≢false, ⊎_elim, inl, inr, ◌⊎◌, ℕ, ◌+◌, ◌<◌, ◌≤◌, arith, eqb-true, eq-eqb, ltb-true, ltb-false, leb-true, Option, Some, None}
use Rattle.std.proofs.lemmas.Bool.{cases_lt}
use Rattle.bits.specs.Bit.{bit_in}
use Rattle.bits.proofs.Picks.{tested, pick_yes, pick_no}
use Rattle.device_state.specs.Contradictory as own
use Rattle.device_state.specs.Contradictory.{busy_bad, moved_bad, idle_bad, entry_bad, tag_bad, table_bad, status_bad, record_bad, row_bad_at, rows_bad, contradictory}
use Rattle.device_state.specs.State.{task_in, tag_in}
use Rattle.frames.specs.Shared.{sectors_of}
use Rattle.device_state.specs.UnderWay.{open_for}
use Rattle.device_state.specs.declared.shapes.Entry.{Entry}
use Rattle.device.specs.Device.{contradictory_device}
use Rattle.device.specs.declared.state.Device.{Device}
use Rattle.device.proofs.Entering.{capacity_most}
use Rattle.device.proofs.Phases.{own_open}
use Rattle.device.proofs.Tallies.{some_found}
use Rattle.promises.specs.Contradicts as odd
use Rattle.promises.specs.Contradicts.{IsOn, InBounds, NamesOwn, no_error, no_command, IsOutstanding, entry, whole, Contradicts}
use Rattle.promises.proofs.Agrees.{on_bit, bit_on, open_named, tag_is, first_is, count_is}

-- one of two tests holds
either : (a b : Bool) → a || b ≡ true → (a ≡ true) ⊎ (b ≡ true)
either true b e = inl refl
either false b e = inr e

-- bytes that name what the entry has name nothing else
own_tag : (t : ℕ) (e : Entry) → NamesOwn t e → own.other_tag e t ≡ false
own_tag t e n = rw (eq-eqb (tag_in e.echo) t (tag_is e.echo ∙ n.tag))

own_range : (t : ℕ) (e : Entry) → NamesOwn t e → own.other_range e ≡ false
own_range t e n = rw (eq-eqb (task_in e.echo).lba e.first (first_is e.echo ∙ n.first), eq-eqb (sectors_of e.features e.features_high) e.count (count_is e.features e.features_high ∙ n.count))

module _ (d : Device) where
  -- ---- settings
  out : own.settings_out d.settings ≡ true → InBounds d.settings → ⊥
  unfolding own.settings_out
  out e b = let b0 = b.row_0 in let b9 = b.row_9 in grind arith

  -- ---- the status and the record
  of_status : status_bad d.status d.errors.set ≡ true → Contradicts d
  unfolding status_bad
  of_status e =
      ⊎_elim
      (λ a. ⊎_elim
      (λ (b : own.stopped_busy d.status ≡ true). odd.stopped_busy (λ z. grind arith) (either d.status.halted d.status.held (grind arith)))
      (λ (b : own.halted_held d.status ≡ true). odd.halted_held (grind arith) (grind arith))
      (either _ _ a))
      (λ a. ⊎_elim
      (λ (b : own.held_record d.status d.errors.set ≡ true). odd.held_record (grind arith) (grind arith))
      (λ (b : own.phase_idle d.status ≡ true). of_phase d.status.phase refl b)
      (either _ _ a))
      (either _ _ e)
    where
      of_phase : (p : Option ℕ) → d.status.phase ≡ p → own.open_idle d.status.outstanding p ≡ true → Contradicts d
      of_phase None q b = absurd (true≢false (sym b))
      of_phase (Some t) q b = odd.phase_idle t q (λ o. let on = bit_on 32 d.status.outstanding t o.0 o.1 in grind arith)

  of_record : record_bad d.errors ≡ true → Contradicts d
  unfolding record_bad
  of_record e =
      ⊎_elim
      (λ a. ⊎_elim
      (λ (b : own.tag_too_large d.errors ≡ true). odd.record_tag (grind arith))
      (λ (b : own.tag_under_nq d.errors ≡ true). odd.record_nq (grind arith) (λ z. grind arith))
      (either _ _ a))
      (λ (b : own.blank_not_zero d.errors ≡ true). odd.blank_bytes (grind arith) (λ z. grind arith))
      (either _ _ e)

  -- ---- a row
  of_rows : rows_bad d.settings.mask d.values ≡ true → Contradicts d
  unfolding rows_bad
  of_rows e =
      let f = some_found (row_bad_at d.settings.mask d.values) 16 e in
      let b = f.1.1 in
      odd.unkept_row f.0 f.1.0 (λ o. let k = bit_on 16 d.settings.mask f.0 f.1.0 o in grind arith) (λ z. grind arith)

  -- ---- a tag
  module _ (most : d.settings.capacity ≤ 65536) (t : ℕ) (l : t < 32) where
    -- what has moved of a command within the capacity
    of_moved : IsOutstanding d t → (entry d t).first + (entry d t).count ≤ d.settings.capacity → moved_bad (entry d t) (open_for d.status.phase t) ≡ true → Contradicts d
    unfolding moved_bad
    of_moved o r b =
        ⊎_elim
        (λ x. ⊎_elim
        (λ (y : own.moved_above (entry d t) ≡ true). odd.moved_above t o (let h = ltb-true _ _ y in omega arith))
        (λ (y : own.moved_odd (entry d t) ≡ true). odd.moved_fours t o (λ z. grind arith))
        (either _ _ x))
        (λ x. ⊎_elim
        (λ (y : own.moved_between (entry d t) (open_for d.status.phase t) ≡ true). of_between o r y)
        (λ (y : own.phase_done (entry d t) (open_for d.status.phase t) ≡ true). odd.phase_done t (open_named t d.status.phase (grind arith)) (grind arith))
        (either _ _ x))
        (either _ _ b)
      where
        of_between : IsOutstanding d t → (entry d t).first + (entry d t).count ≤ d.settings.capacity → own.moved_between (entry d t) (open_for d.status.phase t) ≡ true → Contradicts d
        of_between o r y =
            ⊎_elim
            (λ (a : whole d t < (entry d t).moved). odd.moved_above t o a)
            (λ (a : (entry d t).moved ≤ whole d t). odd.moved_idle t o (grind arith) (grind arith) (λ p. let q = own_open d.status.phase t p in grind arith))
            (cases_lt (whole d t) (entry d t).moved)

    -- what else of it
    of_other : IsOutstanding d t → own.past_capacity d.settings (entry d t) ≡ false
        → (own.above_depth d.settings t || own.past_capacity d.settings (entry d t)) || (own.count_zero (entry d t) || (own.other_tag (entry d t) t || own.other_range (entry d t))) ≡ true → Contradicts d
    of_other o p b =
        ⊎_elim
        (λ (x : own.above_depth d.settings t ≡ true). odd.tag_above_depth t o (leb-true _ _ x))
        (λ (x : own.above_depth d.settings t ≡ false). ⊎_elim
        (λ (y : own.count_zero (entry d t) ≡ true). odd.count_zero t o (eqb-true _ _ y))
        (λ (y : own.count_zero (entry d t) ≡ false). odd.bytes_of_another t o (λ n. true≢false (sym b ∙ rw (x, p, y, own_tag t (entry d t) n, own_range t (entry d t) n))))
        (tested (own.count_zero (entry d t))))
        (tested (own.above_depth d.settings t))

    of_busy : bit_in 32 d.status.outstanding t ≡ true → busy_bad d.settings (entry d t) t (open_for d.status.phase t) ≡ true → Contradicts d
    unfolding busy_bad
    of_busy o b =
        let is : IsOutstanding d t = on_bit 32 d.status.outstanding t o in
        ⊎_elim
        (λ (p : own.past_capacity d.settings (entry d t) ≡ true). odd.range_past_capacity t is (ltb-true _ _ p))
        (λ (p : own.past_capacity d.settings (entry d t) ≡ false). ⊎_elim (of_other is p) (of_moved is (ltb-false _ _ p)) (either _ _ b))
        (tested (own.past_capacity d.settings (entry d t)))

    of_idle : bit_in 32 d.status.outstanding t ≡ false → idle_bad (entry d t) ≡ true → Contradicts d
    unfolding idle_bad
    of_idle o b = odd.idle_entry t l (λ n. true≢false (sym (bit_on 32 d.status.outstanding t n.0 n.1) ∙ o)) (λ z. grind arith)

    of_tag : tag_bad d.settings d.entries d.status.outstanding d.status.phase t ≡ true → Contradicts d
    unfolding entry_bad
    of_tag b =
        let o = bit_in 32 d.status.outstanding t in
        ⊎_elim
        (λ (x : o ≡ true). of_busy x (sym (pick_yes o _ _ x) ∙ b))
        (λ (x : o ≡ false). of_idle x (sym (pick_no o _ _ x) ∙ b))
        (tested o)

  of_table : d.settings.capacity ≤ 65536 → table_bad d.settings d.entries d.status.outstanding d.status.phase ≡ true → Contradicts d
  unfolding table_bad
  of_table most e = let f = some_found (tag_bad d.settings d.entries d.status.outstanding d.status.phase) 32 e in of_tag most f.0 f.1.0 f.1.1

  -- ---- all of them
  pub some_holds : contradictory_device d ≡ true → Contradicts d
  unfolding contradictory_device contradictory
  some_holds h =
      ⊎_elim
      (λ (s : own.settings_out d.settings ≡ true). odd.settings_out (out s))
      (λ (s : own.settings_out d.settings ≡ false). ⊎_elim
      (λ x. ⊎_elim
      (λ (y : own.settings_out d.settings || table_bad d.settings d.entries d.status.outstanding d.status.phase ≡ true). of_table (capacity_most d.settings s) (grind arith))
      (λ y. ⊎_elim of_status of_record (either _ _ y))
      (either _ _ x))
      of_rows
      (either _ _ h))
      (tested (own.settings_out d.settings))
