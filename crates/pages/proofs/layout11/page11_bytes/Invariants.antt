use Rattle.std.proofs.Common.{◌≡◌, length}
use Rattle.pages.proofs.Filling.{laid_out, kept_to}
use Rattle.pages.proofs.layout11.page11_bytes.Given as goal

-- the rows that were yielded so far stand on the page
abbrev pub invariant-loop-place : goal.invariant-loop-place
invariant-loop-place l = l.page ≡ laid_out (kept_to l.fn.mask l.fn.values (length l.yielded))
