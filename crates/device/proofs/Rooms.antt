-- Every taken call that replies has room for its replies, and its place in the medium.
use Rattle.std.proofs.Common.{Ok, is_none, unwrap_or, ◌≡◌, true, false, ℕ, ◌+◌, ◌*◌, ◌≤◌, arith, leb, eqb, length, ltb-false, le-leb, eqb-true}
use borrow.Author.Tests.{not-false}
use Rattle.bits.specs.Bit.{bit_in}
use Rattle.rules.specs.Handed.{handed}
use Rattle.rules.specs.Positions.{move_of}
use Rattle.rules.specs.declared.acts.Act.{Act}
use Rattle.rules.proofs.Ruled as by
use Rattle.device.specs.Device.{contradictory_device}
use Rattle.device.specs.Lent.{Lent}
use Rattle.device.specs.FactsOf.{medium_wrong, facts_of}
use Rattle.device.specs.DataDue.{phase_entry}
use Rattle.device.specs.Step.{act_of}
use Rattle.device.specs.declared.state.Device.{Device}
use Rattle.device.proofs.Turns.{act_ruled}
use Rattle.device.proofs.Busy.{range_within, whole_is, moved_within}
use Rattle.device.proofs.Parts.{status_good}
use Rattle.device.proofs.StatusLaws.{phase_busy}
use Rattle.device.proofs.Phases.{open_entry_lem}

-- a taken call that is lent a reply buffer is lent 8,196 bytes
pub roomy : (d : Device) (l : Lent) (a : Act) → (handed l.call).buffer ≡ true → Ok a ≡ act_of d l → leb 8196 (length l.buffer) ≡ true
roomy d l a p q = le-leb 8196 (length l.buffer) (ltb-false (length l.buffer) 8196 (by.ruled_room (facts_of d l) p (act_ruled d l a q)))

-- what moves lies within the command's range, and that within the medium
module _ (d : Device) (h : contradictory_device d ≡ false) (p : is_none d.status.phase ≡ false) where
  pub move_within : (k n : ℕ) → medium_wrong d.settings.capacity n ≡ false → (move_of d.status (phase_entry d) k).at + (move_of d.status (phase_entry d) k).size ≤ n
  unfolding move_of
  move_within k n w =
      let t = unwrap_or d.status.phase 0 in
      let busy : bit_in 32 d.status.outstanding t ≡ true = phase_busy d.status d.errors.set (status_good d h) p in
      let range = range_within d t h busy in
      let moved = moved_within d t h busy in
      let whole = whole_is d t h busy in
      let all : n ≡ 512 * d.settings.capacity = eqb-true n (512 * d.settings.capacity) (not-false (eqb n (512 * d.settings.capacity)) w) in
      rw (open_entry_lem d.entries d.status.phase p) (omega arith)
