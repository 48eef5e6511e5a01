use Rattle.std.proofs.Common.{◌≡◌, drop, map}
use Rattle.call_scripts.specs.Names.{named_in}
use Rattle.call_scripts.proofs.names.named.Given as goal

-- no row so far has the name
abbrev pub invariant-loop-name : goal.invariant-loop-name
invariant-loop-name g l =
    named_in (map (λ row. (row.0.now, row.1)) l.table) l.word ≡ named_in (map (λ row. (row.0.now, row.1)) (drop l.name-index l.table)) l.word
