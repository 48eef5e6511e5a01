use Rattle.std.proofs.Common.{◌≡◌, take}
use Rattle.call_scripts.specs.Counting.{counted}
use Rattle.call_scripts.proofs.counting.count_up.Given as goal

-- so many bytes are filled
abbrev pub invariant-loop-place : goal.invariant-loop-place
invariant-loop-place l = take l.place l.buffer ≡ counted l.modulus l.first l.place
