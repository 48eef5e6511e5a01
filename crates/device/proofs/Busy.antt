-- What is known of an outstanding command in a state that does not contradict itself.
use Rattle.std.proofs.Common.{is_none, unwrap_or, ◌≡◌, Bool, true, false, ℕ, ◌+◌, ◌-◌, ◌*◌, ◌%◌, ◌≤◌, ◌<◌, min, arith}
use Rattle.bits.specs.Bit.{bit_in}
use Rattle.device_state.specs.State.{whole_of}
use Rattle.device_state.specs.Table.{entry_of}
use Rattle.device_state.specs.Contradictory.{moved_bad, busy_bad, entry_bad}
use Rattle.device_state.specs.declared.shapes.Entry.{Entry}
use Rattle.rules.specs.Positions.{left_of}
use Rattle.device.specs.Device.{contradictory_device}
use Rattle.device.specs.DataDue.{phase_entry}
use Rattle.device.specs.declared.state.Device.{Device}
use Rattle.device.proofs.Parts.{tag_good, status_good}
use Rattle.device.proofs.StatusLaws.{phase_busy}
use Rattle.device.proofs.Entering.{capacity_most}
use Rattle.device.proofs.Keeping.{settings_good}
use Rattle.device.proofs.Tags.{busy_below}
use Rattle.device.proofs.Phases.{some_open, open_entry_lem, own_open}
use Rattle.device_state.specs.UnderWay.{open_for}

-- the phase of a tag is open
abbrev pub phase_of : Device → ℕ → Bool
phase_of d t = open_for d.status.phase t

-- its entry
pub busy_good : (d : Device) (t : ℕ) → contradictory_device d ≡ false → bit_in 32 d.status.outstanding t ≡ true
    → busy_bad d.settings (entry_of d.entries t) t (phase_of d t) ≡ false
unfolding entry_bad
busy_good d t h b = rw b at (tag_good d h t (busy_below d.status.outstanding t b))

module _ (d : Device) (t : ℕ) (h : contradictory_device d ≡ false) (b : bit_in 32 d.status.outstanding t ≡ true) where
  abbrev e : Entry
  e = entry_of d.entries t

  -- its range lies within the capacity
  pub range_within : e.first + e.count ≤ d.settings.capacity
  unfolding busy_bad moved_bad
  range_within = let busy = busy_good d t h b in grind arith

  -- it has 512 bytes a sector
  pub whole_is : whole_of e.count ≡ 512 * e.count
  whole_is =
      let range = range_within in
      let most = capacity_most d.settings (settings_good d h) in
      omega arith

  -- no more has moved than it has bytes
  pub moved_within : e.moved ≤ whole_of e.count
  unfolding busy_bad moved_bad
  moved_within = let busy = busy_good d t h b in grind arith

  -- and whole Dwords
  pub moved_fours : e.moved % 4 ≡ 0
  unfolding busy_bad moved_bad
  moved_fours = let busy = busy_good d t h b in grind arith

  -- an open phase has more to move
  pub phase_more : phase_of d t ≡ true → e.moved < whole_of e.count
  unfolding busy_bad moved_bad
  phase_more p = let busy = busy_good d t h b in grind arith

-- of the open phase
pub moves_on : (d : Device) → contradictory_device d ≡ false → is_none d.status.phase ≡ false → (phase_entry d).moved < whole_of (phase_entry d).count
moves_on d h p =
    let t = unwrap_or d.status.phase 0 in
    let own : phase_of d t ≡ true = own_open d.status.phase t (some_open d.status.phase p) in
    rw (open_entry_lem d.entries d.status.phase p) (phase_more d t h (phase_busy d.status d.errors.set (status_good d h) p) own)

-- of whole Dwords, and of what is left of the open phase's command, the less is whole Dwords too
pub part_fours : (d : Device) (k : ℕ) → contradictory_device d ≡ false → is_none d.status.phase ≡ false → k % 4 ≡ 0
    → min k (left_of (entry_of d.entries (unwrap_or d.status.phase 0))) % 4 ≡ 0
part_fours d k h p four =
    let t = unwrap_or d.status.phase 0 in
    let old = moved_fours d t h (phase_busy d.status d.errors.set (status_good d h) p) in
    less_fours k (entry_of d.entries t).count (entry_of d.entries t).moved four old
  where
    less_fours : (k count moved : ℕ) → k % 4 ≡ 0 → moved % 4 ≡ 0 → min k (512 * min count 65536 - moved) % 4 ≡ 0
    less_fours k count moved a b = omega arith
