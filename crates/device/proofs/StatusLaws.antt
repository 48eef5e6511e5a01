-- The test of the status, after a command is accepted, opened, moved on or finished.
use Rattle.std.proofs.Common.{Option, Some, None, is_some, is_none, unwrap_or, ◌≡◌, Bool, true, false, not, ℕ, arith, eqb}
use Rattle.bits.specs.Pick.{pick}
use Rattle.bits.specs.Bit.{bit_in, clear_in}
use Rattle.device_state.specs.Contradictory.{phase_idle, status_bad}
use Rattle.device_state.specs.declared.shapes.Status.{Status}
use Rattle.device.proofs.Phases.{none_open}

-- a status by its parts
abbrev pub status_with : ℕ → Option ℕ → Bool → Bool → Status
status_with o phase halted held = record { outstanding = o; phase = phase; halted = halted; held = held }

-- neither halted nor held, and no phase open: whatever is outstanding
pub free_status : (o : ℕ) (phase : Option ℕ) (halted held set : Bool) → halted ≡ false → held ≡ false → is_some phase ≡ false → status_bad (status_with o phase halted held) set ≡ false
unfolding status_bad
free_status o phase halted held set a b p = rw (a, b, none_open phase p)

-- the same of statuses
pub kept_status : (o o' : ℕ) (phase phase' : Option ℕ) (halted held set : Bool) → status_bad (status_with o phase halted held) set ≡ false
    → (not (eqb o 0) ≡ false → not (eqb o' 0) ≡ false) → phase_idle (status_with o' phase' halted held) ≡ false → status_bad (status_with o' phase' halted held) set ≡ false
unfolding status_bad
kept_status o o' phase phase' halted held set e k i = grind arith

-- an open phase's tag is outstanding
pub phase_good : (f : Status) (set : Bool) → status_bad f set ≡ false → phase_idle f ≡ false
unfolding status_bad
phase_good f set e = grind arith

-- the same, where a phase is open
pub phase_busy : (f : Status) (set : Bool) → status_bad f set ≡ false → is_none f.phase ≡ false → bit_in 32 f.outstanding (unwrap_or f.phase 0) ≡ true
phase_busy f set e n = let idle = phase_good f set e in grind arith

-- the phase of an outstanding tag
pub opened_idle : (o tag : ℕ) (halted held : Bool) → bit_in 32 o tag ≡ true → phase_idle (status_with o (Some tag) halted held) ≡ false
opened_idle o tag halted held b = rw b

-- a phase that closes at the last move
pub moved_idle : (last : Bool) (o : ℕ) (phase : Option ℕ) (halted held : Bool) → phase_idle (status_with o phase halted held) ≡ false
    → phase_idle (status_with o (pick last None phase) halted held) ≡ false
moved_idle last o phase halted held e = grind arith

-- where nothing was outstanding, nothing is after a set is finished
pub none_left : (o set : ℕ) → not (eqb o 0) ≡ false → not (eqb (clear_in 32 o set) 0) ≡ false
none_left o set e = grind arith
