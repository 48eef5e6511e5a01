use Rattle.std.proofs.Common.{refl, ◌∙◌, ap, sym, arith}
use Rattle.device.specs.Sealing.{powered_of}
use Rattle.std.proofs.lemmas.List.{take-replicate}
use Rattle.events.proofs.Starting.{stays_refused, refused_yes, refused_no, first_line, started_is, medium_fits, room_is}
use Rattle.events.proofs.running.start_with.Goals as goal

pub slice_bounds-medium-end : goal.slice_bounds-medium-end
slice_bounds-medium-end g c = let f = medium_fits c.args.settings c.start-begun.ensures c.in-Ok.is in omega (arith, f, (rw c.state.ensures at c.medium_size-size.ensures))

pub slice_bounds-new-end : goal.slice_bounds-new-end
slice_bounds-new-end g c = room_is c.args.settings _ c.in-Ok.sealed c.start-begun.ensures c.in-Ok.is _ (rw c.state.ensures at c.medium_size-size.ensures) _ refl

pub returns-in_default : goal.returns-in_default
returns-in_default g c = λ calm base before none i read.
    let line = first_line c.args.traced c.args.settings base _ c.start-begun.ensures c.as_ref.ensures.value c.err.ensures.value c.copied.ensures none c.tell.ensures in
    let off = refused_yes c.args.settings c.in_default.field-0 (sym (ap powered_of c.in_default.is) ∙ c.start-begun.ensures) in
    stays_refused c.args.traced c.args.settings _ base before _ _ _ _ _ c.finish.result off calm i read line c.finish.ensures

pub returns : goal.returns
returns g c = λ calm base before none i read.
    let line = first_line c.args.traced c.args.settings base _ c.start-begun.ensures c.as_ref.ensures.value c.err.ensures.value c.copied.ensures none c.tell.ensures in
    let on = sym (ap powered_of c.in-Ok.is) ∙ c.start-begun.ensures in
    let f = medium_fits c.args.settings c.start-begun.ensures c.in-Ok.is in
    let begun = c.new-bench.ensures ∙ started_is c.args.settings _ _ _ on _ (rw c.state.ensures at c.medium_size-size.ensures) (take-replicate _ 32768 0 (omega (arith, f, (rw c.state.ensures at c.medium_size-size.ensures)))) refl in
    c.play_on.ensures calm c.args.settings base before (refused_no c.args.settings _ on) begun line i read
