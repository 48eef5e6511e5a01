-- The entry of a queued command that is taken is right for its tag: its bytes name that tag and its range.
use Rattle.std.proofs.Common.{◌≡◌, refl, false, ℕ, ◌+◌, ◌^◌, ◌≤◌, ◌<◌, arith, ltb, leb, eqb, eq-eqb, ltb-false}
use Rattle.frames.specs.Shared.{tag_of, sectors_of}
use Rattle.frames.specs.declared.shapes.HostReg.{HostReg}
use Rattle.device_state.specs.State.{whole_of}
use Rattle.device_state.proofs.EchoLaws.{echo_tag, echo_lba}
use Rattle.rules.specs.Decide.{tag_asked, count_asked, entry_for}
use Rattle.device_state.specs.Contradictory.{settings_out, moved_bad, busy_bad}
use Rattle.device_state.specs.declared.shapes.Settings.{Settings}
use Rattle.device.proofs.Tags.{moved_none}

-- a tag asked for is below 32
pub tag_small : (count : ℕ) → tag_of count < 32
tag_small count = omega arith

-- a command asks for some sectors
some_sectors : (features high : ℕ) → eqb (sectors_of features high) 0 ≡ false
some_sectors features high = grind arith

-- capacity is at most 65,536
pub capacity_most : (s : Settings) → settings_out s ≡ false → s.capacity ≤ 65536
unfolding settings_out
capacity_most s h = grind arith

-- the entry of a command below the depth and within capacity
pub entry_good : (s : Settings) (r : HostReg) → settings_out s ≡ false → leb s.depth (tag_asked r) ≡ false
    → ltb s.capacity (r.task.lba + count_asked r) ≡ false → busy_bad s (entry_for r) (tag_asked r) false ≡ false
unfolding busy_bad moved_bad
entry_good s r h above past =
    let small : r.task.lba < 2 ^ 48 =
    (let a = capacity_most s h in
    let b = ltb-false s.capacity (r.task.lba + count_asked r) past in
    let c : r.task.lba ≤ 65536 = omega arith in
    omega arith) in
    rw (above, past, some_sectors r.features r.features_high, echo_tag r.task, eq-eqb (tag_asked r) (tag_asked r) refl, echo_lba r.task small, eq-eqb r.task.lba r.task.lba refl, eq-eqb (count_asked r) (count_asked r) refl) (moved_none (whole_of (count_asked r)))
