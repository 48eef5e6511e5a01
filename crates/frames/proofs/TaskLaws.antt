-- What is written of a command's bytes is read again.
use Rattle.std.proofs.Common.{◌≡◌, true, List, [], ◌∷◌, ◌++◌, ℕ, ◌^◌, ◌<◌, arith, ltb-true}
use Rattle.bits.specs.Little.{Bytes, bytes_from, le_bytes}
use Rattle.frames.specs.Shared.{task_of, register_bytes, is_below, task_fits}
use Rattle.frames.specs.declared.shared.Task.{Task}
use Rattle.frames.specs.declared.shared.Registers.{Registers}

pub small : (k x : ℕ) → is_below k x ≡ true → x < 2 ^ k
small k x e = ltb-true x (2 ^ k) e

pub same_task : {l l' d d' n n' : ℕ} → l ≡ l' → d ≡ d' → n ≡ n' → ◌≡◌ {A = Task} (record { lba = l; device = d; count = n }) (record { lba = l'; device = d'; count = n' })
same_task p q r = cc

-- the command's bytes come back out of 27h, 34h and 5Fh
pub task_all : (r : Registers) → task_fits r.task ≡ true → task_of (register_bytes r) ≡ r.task
unfolding register_bytes
task_all r h = grind arith

-- what is read of a command's bytes is not too large for its bits
pub task_fits_lem : (l : List ℕ) → Bytes l → task_fits (task_of l) ≡ true
task_fits_lem l bytes = grind arith

-- the bytes of 27h, 34h and 5Fh one by one
pub register_list : (r : Registers)
    → register_bytes r ≡ r.kind ∷ r.flags ∷ r.second ∷ r.third ∷ bytes_from 0 3 r.task.lba ++ r.task.device ∷ bytes_from 3 3 r.task.lba ++ r.eleven ∷ le_bytes 2 r.task.count ++ 0 ∷ r.fifteen ∷ le_bytes 2 r.bytes ++ 0 ∷ 0 ∷ []
unfolding register_bytes
register_list r = grind arith
