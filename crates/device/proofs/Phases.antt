-- The open phase: what tests of it tell.
use Rattle.std.proofs.Common.{Option, Some, None, is_some, is_none, unwrap_or, ◌≡◌, refl, Bool, true, false, not, List, ℕ, eqb, eq-eqb, arith}
use Rattle.bits.specs.Pick.{pick}
use Rattle.device_state.specs.Table.{entry_of}
use Rattle.device_state.specs.UnderWay.{open_for}
use Rattle.device_state.specs.declared.shapes.Entry.{Entry}
use Rattle.device.specs.FactsOf.{entry_meant}

-- none is open
pub none_open : (phase : Option ℕ) → is_some phase ≡ false → phase ≡ None
none_open phase e = grind arith

-- one is open, that of its tag
pub some_open : (phase : Option ℕ) → is_none phase ≡ false → phase ≡ Some (unwrap_or phase 0)
some_open phase e = grind arith

-- whose entry a call is about
pub open_entry_lem : (es : List Entry) (phase : Option ℕ) → is_none phase ≡ false → entry_meant es phase ≡ entry_of es (unwrap_or phase 0)
open_entry_lem es phase e = grind arith

-- that of a tag
pub own_open : (phase : Option ℕ) (t : ℕ) → phase ≡ Some t → open_for phase t ≡ true
own_open phase t e = rw e (eq-eqb t t refl)

-- none is open, so not that of a tag
pub no_phase : (phase : Option ℕ) (t : ℕ) → phase ≡ None → open_for phase t ≡ false
no_phase phase t e = rw e

-- a phase that closes at the last move: its own tag
pub phase_same : (last : Bool) (phase : Option ℕ) → is_none phase ≡ false → open_for (pick last None phase) (unwrap_or phase 0) ≡ not last
phase_same last phase n = grind arith

-- and any other tag
pub phase_other : (last : Bool) (phase : Option ℕ) (t : ℕ) → is_none phase ≡ false → eqb t (unwrap_or phase 0) ≡ false → open_for (pick last None phase) t ≡ false
phase_other last phase t n x = grind arith
