-- What each change of the state does to settings, commands, phase and halt.
use Rattle.std.proofs.Common.{Some, None, is_none, unwrap_or, ◌≡◌, refl, ap, ◌∙◌, Bool, true, false, List, ℕ, ◌+◌, ◌*◌, ◌<◌, min, arith, eqb, leb, eq-eqb, ne_eqb}
use Rattle.std.proofs.lemmas.Bool.{false_from_ne_true}
use Rattle.bits.specs.Pick.{pick}
use Rattle.bits.specs.Bit.{bit_in}
use Rattle.device_state.specs.State.{whole_of}
use Rattle.device_state.specs.Table.{entry_of, table_with, table_without}
use Rattle.device_state.specs.Contradictory.{status_bad, busy_bad, moved_bad}
use Rattle.device_state.specs.declared.shapes.Entry.{Entry}
use Rattle.device_state.proofs.TableLaws.{entry_of_placed, entry_of_cleared}
use Rattle.frames.specs.declared.shapes.HostReg.{HostReg}
use Rattle.rules.specs.Positions.{left_of, move_of, advanced_by}
use Rattle.rules.specs.Decide.{tag_asked, entry_for}
use Rattle.device.specs.Device.{contradictory_device}
use Rattle.device.specs.After.{accepted_by, moved_by}
use Rattle.device.specs.declared.state.Device.{Device}
use Rattle.device.proofs.Parts.{status_good}
use Rattle.device.proofs.StatusLaws.{phase_busy}
use Rattle.device.proofs.Busy.{phase_of, busy_good, phase_more, whole_is}
use Rattle.device.proofs.Tags.{busy_below}
use Rattle.device.proofs.Entering.{tag_small}
use Rattle.history.specs.FrameAsks.{register_asks}
use Rattle.history.specs.Seen.{Seen}
use Rattle.history.proofs.Class.{Same, Took, Carried}
use Rattle.history.proofs.Sets.{no_busy}
use Rattle.device.proofs.Phases.{some_open, own_open, no_phase}

-- the same state
pub same : (d : Device) → Same d d
same d = record { settings = refl; outstanding = refl; phase = refl; halted = refl; entries = refl }

-- a table with one entry anew
pub placed_same : (es : List Entry) (t : ℕ) (e : Entry) → t < 32 → entry_of (table_with es t e) t ≡ e
placed_same es t e l = entry_of_placed es t e t l ∙ rw (eq-eqb t t refl)

-- every other entry stays
pub placed_other : (es : List Entry) (t : ℕ) (e : Entry) (i : ℕ) → i < 32 → (i ≡ t → ⊥) → entry_of (table_with es t e) i ≡ entry_of es i
placed_other es t e i l n = entry_of_placed es t e i l ∙ rw (ne_eqb i t n)

-- a table without the entries of a set: the others stay
pub cleared_other : (es : List Entry) (set i : ℕ) → i < 32 → bit_in 32 set i ≡ false → entry_of (table_without es set) i ≡ entry_of es i
cleared_other es set i l n = entry_of_cleared es set i l ∙ rw n

module _ (d : Device) (g : contradictory_device d ≡ false) where
  -- a halted state has nothing outstanding
  pub halted_empty : d.status.halted ≡ true → d.status.outstanding ≡ 0
  unfolding status_bad
  halted_empty h =
      let good = status_good d g in
      grind arith

  -- a state with something outstanding is not halted
  pub busy_calm : (t : ℕ) → bit_in 32 d.status.outstanding t ≡ true → d.status.halted ≡ false
  busy_calm t b = false_from_ne_true d.status.halted (λ e. no_busy d.status.outstanding t (halted_empty e) b)

  -- a good one: the tag is outstanding, and its entry is what the command asks for
  pub took_by : (h : HostReg) (e : Seen) → e.asks ≡ register_asks h → d.status.halted ≡ false → d.status.phase ≡ None → bit_in 32 d.status.outstanding (tag_asked h) ≡ false
      → Took d e (accepted_by d (record { tag = tag_asked h; entry = entry_for h }))
  unfolding accepted_by
  took_by h e a calm shut free =
      let l = tag_small h.task.count in
      let t = tag_asked h in
      let p = placed_same d.entries t (entry_for h) l in
      rw a (record {
        calm = calm;
        shut = shut;
        small = l;
        free = free;
        settings = refl;
        outstanding = refl;
        phase = refl;
        halted = refl;
        write = ap (λ (x : Entry). x.write) p;
        first = ap (λ (x : Entry). x.first) p;
        count = ap (λ (x : Entry). x.count) p;
        moved = ap (λ (x : Entry). x.moved) p;
        others = λ i k n. placed_other d.entries t (entry_for h) i k n;
      })

  -- bytes move in the open phase: some, and no more than are left
  pub carried_by : (n : is_none d.status.phase ≡ false) (k : ℕ) → 0 < k
      → let e : Entry = entry_of d.entries (unwrap_or d.status.phase 0) in
      Carried (unwrap_or d.status.phase 0) (min k (left_of e)) d (moved_by d (move_of d.status e k))
  unfolding moved_by move_of advanced_by
  carried_by n k pos =
      let t : ℕ = unwrap_or d.status.phase 0 in
      let e : Entry = entry_of d.entries t in
      let back : d.status.phase ≡ Some t = some_open d.status.phase n in
      let busy = phase_busy d.status d.errors.set (status_good d g) n in
      let l = busy_below d.status.outstanding t busy in
      let more = phase_more d t g busy (own_open d.status.phase t back) in
      let whole = whole_is d t g busy in
      let p = placed_same d.entries t (advanced_by e (min k (left_of e))) l in
      let last : leb (left_of e) k ≡ leb (512 * e.count) (e.moved + min k (left_of e)) = grind arith in
      record {
        phased = back;
        busy = busy;
        some = omega (arith, more);
        within = omega (arith, more, whole);
        settings = refl;
        outstanding = refl;
        phase = ap (λ (b : Bool). pick b None d.status.phase) last;
        halted = refl;
        write = ap (λ (x : Entry). x.write) p;
        first = ap (λ (x : Entry). x.first) p;
        count = ap (λ (x : Entry). x.count) p;
        moved = ap (λ (x : Entry). x.moved) p;
        others = λ i j m. placed_other d.entries t (advanced_by e (min k (left_of e))) i j m;
      }

  -- a command whose phase is closed and that is not wholly moved has not moved at all
  pub unmoved : (t : ℕ) → bit_in 32 d.status.outstanding t ≡ true → d.status.phase ≡ None → eqb (entry_of d.entries t).moved (whole_of (entry_of d.entries t).count) ≡ false
      → (entry_of d.entries t).moved ≡ 0
  unfolding busy_bad moved_bad
  unmoved t b p n =
      let shut : phase_of d t ≡ false = no_phase d.status.phase t p in
      let good = busy_good d t g b in
      grind arith
