-- The two halves of an LBA, in a register frame.
use Rattle.std.proofs.Common.{◌≡◌, true, ℕ, ◌/◌, ◌%◌, ◌^◌, arith, lt-ltb, ltb}
use Rattle.std.proofs.lemmas.Bool.Decides.{nat_tests}
use Rattle.frames.proofs.Defaults.{default_zeros}

-- bits 0-23 have their place, and those from 24 on below 2 ^ 48
pub low_fits : (x : ℕ) → ltb (x % 2 ^ 24) (2 ^ 24) ≡ true
low_fits x = lt-ltb (x % 2 ^ 24) (2 ^ 24) (omega arith)

pub high_fits : (x : ℕ) → ltb (x / 2 ^ 24) (2 ^ 24) ≡ ltb x (2 ^ 48)
high_fits x = grind (arith, nat_tests)

-- what the check needs of it
pub ruleset register_frames = (default_zeros, low_fits, high_fits)
