use Rattle.std.proofs.Common.{◌≡◌}
use Rattle.identity.proofs.Laying.{laid}
use Rattle.identity.proofs.page.page_bytes.Given as goal

-- the words so far stand on the page
abbrev pub invariant-loop-index : goal.invariant-loop-index
invariant-loop-index l = l.page ≡ laid l.fn.identity l.index
