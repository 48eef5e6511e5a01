use Rattle.std.proofs.Common.{◌≡◌, ◌<◌, ◌++◌, ℕ, List, [], ◌∷◌, length, take, get_or, refl, arith}
use Rattle.std.proofs.Math.ListN.{set}
use Rattle.events.proofs.reading.read_body.Goals as goal

-- the first byte of a list in which it was set, whatever is put behind it
set_first : (event rest : List ℕ) (k : ℕ) → 0 < length event → get_or (take 1 (set event 0 k) ++ rest) 0 0 ≡ k
set_first [] rest k h = absurd (omega arith)
set_first (b ∷ event) rest k h = refl

pub returns-clause-first : goal.returns-clause-first
returns-clause-first g c = set_first c.args.event.now _ c.args.kind c.requires
