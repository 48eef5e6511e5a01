use Rattle.std.proofs.Common.{◌≡◌, ℕ, List, ◌++◌, drop}
use Rattle.std.specs.Io.KnownBytes.{Appends}
use Rattle.call_scripts.specs.Rows.{entries_text}
use Rattle.call_scripts.proofs.rows.write_entries.Given as goal

-- what is written, and the entries that are left
abbrev pub invariant-loop-tag : goal.invariant-loop-tag
invariant-loop-tag g l =
    (done : List ℕ) × Appends (g.W.Write.contents l.fn.out) (g.W.Write.contents l.out) done × (done ++ entries_text l.tag (drop l.tag l.entries) ≡ entries_text 0 l.entries)
