-- What is said of output that is lost.
use Rattle.std.specs.Prelude.{ℕ, List, codes}

-- a write failed [event-lost]
abbrev pub complaint : List ℕ
complaint = codes "output failed: lines are missing\n"
