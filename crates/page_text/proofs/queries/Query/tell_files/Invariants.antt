-- The sections of the files that are done are written.
use Rattle.std.proofs.Common.{List, ℕ, map, take}
use Rattle.std.specs.Borrow.{Bor}
use Rattle.page_text.proofs.Filing.{ToldFiles}
use Rattle.page_text.proofs.queries.Query.tell_files.Given as goal

abbrev pub invariant-loop-name : goal.invariant-loop-name
invariant-loop-name g l =
    ToldFiles l.self l.many (g.S.Shelf.holds l.shelf) (map (λ (name : Bor (List ℕ)). name.now) (take l.name-index l.names)) l.worst (g.W.Write.contents l.fn.out) (g.W.Write.contents l.out)
