-- The test of any one tag, after a command is accepted, opened, moved on or finished.
use Rattle.std.proofs.Common.{Option, Some, None, is_none, unwrap_or, ◌≡◌, Bool, true, false, not, List, ℕ, ◌%◌, ◌^◌, ◌<◌, min, leb, eqb, arith}
use Rattle.bits.specs.Pick.{pick}
use Rattle.bits.specs.Bit.{bit_in, with_bit_in, clear_in}
use Rattle.device_state.specs.State.{whole_of}
use Rattle.device_state.specs.Table.{entry_of, table_with, table_without}
use Rattle.rules.specs.Positions.{left_of, advanced_by}
use Rattle.device_state.specs.Contradictory.{moved_bad, busy_bad, entry_bad, tag_bad}
use Rattle.device_state.specs.declared.shapes.Settings.{Settings}
use Rattle.device_state.specs.declared.shapes.Entry.{Entry}
use Rattle.device_state.proofs.TableLaws.{entry_of_placed, entry_of_cleared}
use Rattle.device.proofs.Never.{idle_tag_lem}
use Rattle.device.proofs.Phases.{no_phase, phase_same, phase_other}
use Rattle.device_state.specs.UnderWay.{open_for}
use Rattle.device.proofs.Tags.{bit_with, bit_without, busy_below}

-- an outstanding tag's entry as its phase is opened
busy_opened : (s : Settings) (e : Entry) (t : ℕ) → busy_bad s e t false ≡ false → eqb e.moved (whole_of e.count) ≡ false → busy_bad s e t true ≡ false
unfolding busy_bad moved_bad
busy_opened s e t h m = grind arith

-- and as n bytes move, or what is left
busy_on : (s : Settings) (e : Entry) (t n : ℕ) → busy_bad s e t true ≡ false → min n (left_of e) % 4 ≡ 0 → busy_bad s (advanced_by e (min n (left_of e))) t (not (leb (left_of e) n)) ≡ false
unfolding busy_bad moved_bad advanced_by
busy_on s e t n h four = grind arith

-- ---- any one tag

module _ (s : Settings) (es : List Entry) (o : ℕ) (phase : Option ℕ) where
  -- a command is accepted
  pub accepted_tag : (tag : ℕ) (e : Entry) → phase ≡ None → tag < 32 → busy_bad s e tag false ≡ false → (t : ℕ) → t < 32 → tag_bad s es o phase t ≡ false
      → tag_bad s (table_with es tag e) (with_bit_in 32 o tag) phase t ≡ false
  unfolding entry_bad
  accepted_tag tag e p l b t h old =
      rw (entry_of_placed es tag e t h, bit_with o tag t l h) (grind (arith, no_phase phase t p))

  -- the phase of a tag is opened
  pub opened_tag : (tag : ℕ) → phase ≡ None → bit_in 32 o tag ≡ true → eqb (entry_of es tag).moved (whole_of (entry_of es tag).count) ≡ false
      → ((t : ℕ) → t < 32 → tag_bad s es o phase t ≡ false) → (t : ℕ) → t < 32 → tag_bad s es o (Some tag) t ≡ false
  unfolding entry_bad
  opened_tag tag p b m old t h =
      let was : busy_bad s (entry_of es tag) tag false ≡ false = rw (b, no_phase phase tag p) at (old tag (busy_below o tag b)) in
      let now = old t h in
      grind (arith, busy_opened s (entry_of es tag) tag was m, no_phase phase t p)

  -- n bytes move in the open phase, or what is left
  pub moved_tag : (n : ℕ) → is_none phase ≡ false → bit_in 32 o (unwrap_or phase 0) ≡ true → min n (left_of (entry_of es (unwrap_or phase 0))) % 4 ≡ 0
      → ((t : ℕ) → t < 32 → tag_bad s es o phase t ≡ false) → (t : ℕ) → t < 32
      → tag_bad s (table_with es (unwrap_or phase 0) (advanced_by (entry_of es (unwrap_or phase 0)) (min n (left_of (entry_of es (unwrap_or phase 0)))))) o (pick (leb (left_of (entry_of es (unwrap_or phase 0))) n) None phase) t ≡ false
  unfolding entry_bad
  moved_tag n p b four old t h =
      let last : Bool = leb (left_of (entry_of es (unwrap_or phase 0))) n in
      rw (entry_of_placed es (unwrap_or phase 0) (advanced_by (entry_of es (unwrap_or phase 0)) (min n (left_of (entry_of es (unwrap_or phase 0))))) t h)
      (let was : busy_bad s (entry_of es (unwrap_or phase 0)) (unwrap_or phase 0) true ≡ false = rw (b, phase_same false phase p) at (old (unwrap_or phase 0) (busy_below o (unwrap_or phase 0) b)) in
      let now = old t h in
      grind (arith, busy_on s (entry_of es (unwrap_or phase 0)) (unwrap_or phase 0) n was four, phase_same last phase p, phase_other last phase t p, phase_other false phase t p))

  -- a set of commands is finished
  pub finished_tag : (set : ℕ) → set < 2 ^ 32 → (t : ℕ) → t < 32 → tag_bad s es o phase t ≡ false → tag_bad s (table_without es set) (clear_in 32 o set) phase t ≡ false
  finished_tag set l t h old =
      rw (entry_of_cleared es set t h, bit_without o set t l h) (grind (arith, idle_tag_lem s t (open_for phase t)))
