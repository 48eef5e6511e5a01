-- Arguments of their types, by what a call is handed.
use Rattle.std.proofs.Common.{List, [], ℕ, ◌^◌, ◌<◌, arith, lit<}
use Rattle.bits.specs.Little.{Bytes}

no_bytes : Bytes []
no_bytes i = omega arith

-- a call that is handed neither frame nor set nor error
pub none_typed : Bytes [] × (0 < 2 ^ 32) × (0 < 256)
none_typed = (no_bytes, lit< tt, lit< tt)

pub frame_typed : (f : List ℕ) → Bytes f → Bytes f × (0 < 2 ^ 32) × (0 < 256)
frame_typed f h = (h, lit< tt, lit< tt)

pub set_typed : (s : ℕ) → s < 2 ^ 32 → Bytes [] × (s < 2 ^ 32) × (0 < 256)
set_typed s h = (no_bytes, h, lit< tt)

pub error_typed : (e : ℕ) → e < 256 → Bytes [] × (0 < 2 ^ 32) × (e < 256)
error_typed e h = (no_bytes, lit< tt, h)
