-- The bytes that are kept of a command name what the command named.
use Rattle.std.proofs.Common.{◌≡◌, refl, ap, ap₂, ◌∙◌, true, ◌&&◌, ℕ, ◌+◌, ◌*◌, ◌^◌, ◌<◌, arith}
use Rattle.bits.proofs.Picks.{and_left, and_right}
use Rattle.bits.proofs.Littles.{le_bytes_from}
use Rattle.frames.specs.Shared.{tag_of, is_below, task_fits}
use Rattle.frames.specs.declared.shared.Task.{Task}
use Rattle.frames.proofs.TaskLaws.{small, same_task}
use Rattle.device_state.specs.State.{task_in, tag_in, echo_of}

-- the bytes of what a frame named name its tag
pub echo_tag : (t : Task) → tag_in (echo_of t) ≡ tag_of t.count
unfolding task_in echo_of
echo_tag t = ap tag_of (le_bytes_from 0 2 t.count) ∙ omega arith

-- and its first sector
pub echo_lba : (t : Task) → t.lba < 2 ^ 48 → (task_in (echo_of t)).lba ≡ t.lba
unfolding task_in echo_of
echo_lba t h = ap₂ (λ (a b : ℕ). a * 2 ^ 24 + b) (le_bytes_from 3 3 t.lba) (le_bytes_from 0 3 t.lba) ∙ omega arith

-- all that they named
pub echo_task : (t : Task) → task_fits t ≡ true → task_in (echo_of t) ≡ t
unfolding task_in echo_of
echo_task t h =
    let count : t.count < 2 ^ 16 = small 16 t.count (and_right (is_below 8 t.device) (is_below 16 t.count) (and_left (is_below 8 t.device && is_below 16 t.count) (is_below 48 t.lba) h)) in
    same_task (echo_lba t (small 48 t.lba (and_right (is_below 8 t.device && is_below 16 t.count) (is_below 48 t.lba) h))) refl (le_bytes_from 0 2 t.count ∙ omega arith)
