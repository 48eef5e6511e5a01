-- The host data that is due, in plain numbers.
use Rattle.std.proofs.Common.{Option, Some, None, is_some, unwrap_or, ◌≡◌, ap, ◌∙◌, true, false, not, ℕ, ◌≤◌, min, arith}
use Rattle.bits.proofs.Picks.{by_test, and_left, pick_yes, pick_no}
use Rattle.rules.specs.Positions.{left_of}
use Rattle.device.specs.Device.{contradictory_device}
use Rattle.device.specs.DataDue.{phase_entry, writing, data_due}
use Rattle.device.specs.declared.state.Device.{Device}
use Rattle.device.proofs.Moves.{left, left_is}

-- in the write phase of a state that does not contradict itself, the length due is min(8,192, what is left of the command)
pub due_is : (d : Device) → contradictory_device d ≡ false → writing d ≡ true → data_due d ≡ Some (min 8192 (left d))
unfolding data_due
due_is d h w =
    let phase = ap not (and_left (is_some d.status.phase) (phase_entry d).write w) in
    pick_yes (writing d) (Some (min 8192 (left_of (phase_entry d)))) None w ∙ ap (λ (n : ℕ). Some (min 8192 n)) (left_is d h phase)

-- while none is open, none is
pub due_none : (d : Device) → writing d ≡ false → data_due d ≡ None
unfolding data_due
due_none d w = pick_no (writing d) (Some (min 8192 (left_of (phase_entry d)))) None w

-- no more than a data frame holds
pub due_most : (d : Device) (n : ℕ) → n ≤ 8192 → unwrap_or (data_due d) n ≤ 8192
unfolding data_due
due_most d n h = by_test (λ (x : Option ℕ). unwrap_or x n ≤ 8192) (writing d) (Some (min 8192 (left_of (phase_entry d)))) None (λ _. omega arith) (λ _. h)
