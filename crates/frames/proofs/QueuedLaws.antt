-- Laws of a queued command's tag and sector count.
use Rattle.std.proofs.Common.{◌≡◌, ℕ, ◌+◌, ◌*◌, ◌/◌, ◌%◌, ◌≤◌, ◌<◌, arith, eqb}
use Rattle.bits.specs.Pick.{pick}
use Rattle.frames.specs.Shared.{tag_of, sectors_of}

-- the tag is what bits 7:3 of byte 12 hold, whatever stands in the bits below and in byte 13
pub tag_held : (tag low high : ℕ) → tag < 32 → low < 8 → tag_of (high * 256 + (tag * 8 + low)) ≡ tag
tag_held tag low high h k = omega arith

-- the sector count is the number that the two bytes hold, and 65,536 for 0
pub sectors_held : (n : ℕ) → n < 65536 → sectors_of (n % 256) (n / 256) ≡ pick (eqb n 0) 65536 n
sectors_held n h = grind arith

-- no command is empty
pub sectors_some : (features high : ℕ) → 1 ≤ sectors_of features high
sectors_some features high = grind arith
