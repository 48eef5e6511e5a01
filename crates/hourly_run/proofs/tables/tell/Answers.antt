use Rattle.std.proofs.Common.{sym, ap, subst, map, List, Ok}
use Rattle.hourly_run.specs.Kept.{reading, readings_told}
use Rattle.hourly_run.specs.Pages.{shelved}
use Rattle.hourly_run.specs.Samples.{Told, SamplesOf}
use Rattle.hourly_run.specs.declared.readings.Reading.{Reading}
use Rattle.hourly_run.proofs.Came.{ok_so}
use Rattle.hourly_run.proofs.tables.tell.Goals as goal

pub returns-in-Ok : goal.returns-in-Ok
returns-in-Ok g c =
    let told = subst (λ (x : Told). SamplesOf (shelved g.S.Shelf.holds c.args.shelf) c.args.input.now x) (ap readings_told c.in-Ok.is) c.in_ok-readings.ensures in
    let same = subst (λ (rs : List Reading). SamplesOf (shelved g.S.Shelf.holds c.args.shelf) c.args.input.now (Ok (map reading rs))) (sym c.deref.ensures.value) told in
    ok_so c.table_of.result _ _ c.table_of.ensures (λ t e. (Ok (map reading c.deref.result.now), same, e))
