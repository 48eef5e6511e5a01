use Rattle.std.proofs.Common.{map, length}
use Rattle.hourly_run.specs.Kept.{reading}
use Rattle.hourly_run.specs.Pages.{shelved}
use Rattle.hourly_run.proofs.Cutting.{Begins}
use Rattle.hourly_run.proofs.readings.readings_in.Given as goal

abbrev pub invariant-loop-rest : goal.invariant-loop-rest
invariant-loop-rest g l = Begins (shelved g.S.Shelf.holds l.shelf) l.fn.text (map reading l.readings.items) l.rest

abbrev pub decreases-loop-rest : goal.decreases-loop-rest
decreases-loop-rest g l = length l.rest
