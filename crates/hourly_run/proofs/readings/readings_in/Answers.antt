use Rattle.std.proofs.Common.{◌≡◌, sym, ap, ◌∙◌, subst, map, List, [], ◌∷◌, ◌+◌, ℕ, length, Result, Err, eqb-true, arith}
use Rattle.std.proofs.lemmas.List.{map-append, length-map}
use Rattle.hourly_table.specs.Samples.{Sampled}
use Rattle.hourly_run.specs.Entries.{entry_of}
use Rattle.hourly_run.specs.Kept.{reading, reading_told}
use Rattle.hourly_run.specs.Pages.{shelved}
use Rattle.hourly_run.specs.Samples.{MayTell, SamplesOf}
use Rattle.hourly_run.proofs.Cutting.{Begins, line_more, line_bad, lines_all}
use Rattle.hourly_run.proofs.readings.readings_in.Goals as goal

pub returns-in-Err : goal.returns-in-Err
returns-in-Err g c =
    let shelf = shelved g.S.Shelf.holds c.args.shelf in
    let line = c.cut_line.result.0.now in
    let first = map reading c.loop-rest.readings.items in
    let many : c.len.result + 1 ≡ length first + 1 = (let v = c.loop-rest.readings.ok.0 in omega (arith, length-map c.loop-rest.readings.items reading, c.len.ensures)) in
    let said = rw (many, c.entry_of.ensures, c.deref.ensures.value) at c.in_ok-line_said-in-Err.ensures in
    subst (λ (x : List ℕ). SamplesOf shelf c.args.text.now (Err x)) (sym said)
    (line_bad shelf c.args.text.now first c.loop-rest.rest.now c.loop-rest.invariant line c.cut_line.result.1.now c.in-Err.why.items c.cut_line.ensures.line
    (subst (λ (o : Result Sampled (List ℕ)). MayTell shelf (entry_of line) o) (ap reading_told c.in-Err.is) c.in_ok-reading.ensures))

pub loop-rest-preserved : goal.loop-rest-preserved
loop-rest-preserved g c =
    let shelf = shelved g.S.Shelf.holds c.args.shelf in
    subst (λ (l : List Sampled). Begins shelf c.args.text.now l c.cut_line.result.1.now)
    (sym (ap (map reading) c.in_ok-push-in-Ok.ensures.items ∙ map-append reading c.loop-rest.readings.items (c.in-Ok.reading ∷ [])))
    (line_more shelf c.args.text.now (map reading c.loop-rest.readings.items) c.loop-rest.rest.now c.loop-rest.invariant c.cut_line.result.0.now c.cut_line.result.1.now (reading c.in-Ok.reading) c.cut_line.ensures.line
    (subst (λ (o : Result Sampled (List ℕ)). MayTell shelf (entry_of c.cut_line.result.0.now) o) (ap reading_told c.in-Ok.is) c.in_ok-reading.ensures))

pub returns : goal.returns
returns g c =
    lines_all (shelved g.S.Shelf.holds c.args.shelf) c.args.text.now (map reading c.loop-rest.readings.items) c.loop-rest.rest.now c.loop-rest.invariant (eqb-true (length c.loop-rest.rest.now) 0 (sym c.is_empty.ensures ∙ c.loop-rest-test.false))
