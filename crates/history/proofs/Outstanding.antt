-- What the clauses of refusal 1 tell of the entry of an outstanding command, and of an idle tag's.
use Rattle.std.proofs.Common.{arith, ◌≡◌, sym, ◌∙◌, true, false, ℕ, ◌<◌}
use Rattle.bits.specs.Bit.{bit_in}
use Rattle.bits.proofs.Picks.{pick_no}
use Rattle.frames.specs.Shared.{sectors_of}
use Rattle.device_state.specs.State.{task_in, tag_in, zero_entry}
use Rattle.device_state.specs.Table.{entry_of}
use Rattle.device_state.specs.declared.shapes.Entry.{Entry}
use Rattle.device_state.specs.Contradictory.{busy_bad, idle_bad, entry_bad}
use Rattle.device.specs.Device.{contradictory_device}
use Rattle.device.specs.declared.state.Device.{Device}
use Rattle.device.proofs.Busy.{phase_of, busy_good}
use Rattle.device.proofs.Parts.{tag_good}

module _ (d : Device) (t : ℕ) (h : contradictory_device d ≡ false) (b : bit_in 32 d.status.outstanding t ≡ true) where
  abbrev e : Entry
  e = entry_of d.entries t

  -- its tag is below the depth
  pub depth_below : t < d.settings.depth
  unfolding busy_bad
  depth_below = let k = busy_good d t h b in grind arith

  -- its bytes name its tag
  pub tag_named : tag_in e.echo ≡ t
  unfolding busy_bad
  tag_named = let k = busy_good d t h b in grind arith

  -- its first sector
  pub first_named : (task_in e.echo).lba ≡ e.first
  unfolding busy_bad
  first_named = let k = busy_good d t h b in grind arith

  -- and its count
  pub count_named : sectors_of e.features e.features_high ≡ e.count
  unfolding busy_bad
  count_named = let k = busy_good d t h b in grind arith

-- ---- an idle tag

-- an entry that the clause lets pass
all_zero : (e : Entry) → idle_bad e ≡ false → e ≡ zero_entry
unfolding idle_bad
all_zero e h =
    grind arith

-- it has no command
pub idle_zero : (d : Device) (t : ℕ) → contradictory_device d ≡ false → t < 32 → bit_in 32 d.status.outstanding t ≡ false → entry_of d.entries t ≡ zero_entry
unfolding entry_bad
idle_zero d t h l b =
    let e = entry_of d.entries t in
    all_zero e (sym (pick_no (bit_in 32 d.status.outstanding t) (busy_bad d.settings e t (phase_of d t)) (idle_bad e) b) ∙ tag_good d h t l)
