use Rattle.std.proofs.Common.{◌≡◌, take}
use Rattle.call_scripts.specs.Told.{one_line}
use Rattle.call_scripts.proofs.told.one_line.Given as goal

-- the bytes so far
abbrev pub invariant-loop-byte : goal.invariant-loop-byte
invariant-loop-byte l = l.line.items ≡ one_line (take l.byte-index l.text)
