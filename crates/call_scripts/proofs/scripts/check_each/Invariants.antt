use Rattle.std.proofs.Common.{List, ℕ, map, take, Ok}
use Rattle.std.specs.Borrow.{Bor}
use Rattle.call_scripts.specs.CheckEnds.{HasLookedAt}
use Rattle.call_scripts.proofs.scripts.check_each.Given as goal

-- the scripts so far are looked at
abbrev pub invariant-loop-name : goal.invariant-loop-name
invariant-loop-name g l =
    HasLookedAt (g.S.Shelf.holds l.shelf) (map (λ (name : Bor (List ℕ)). name.now) (take l.name-index l.names)) (g.W.Write.contents l.fn.out) (g.W.Write.contents l.out) l.fn.said.items l.said.items (Ok l.all)
