use Rattle.page_text.proofs.Owing.{on_err}
use Rattle.hourly_run.proofs.Printing.{nothing_printed, front_printed}
use Rattle.hourly_run.specs.Asked.{asked}
use Rattle.hourly_run.proofs.running.print.Goals as goal

pub returns-in_err-telling-clause-err : goal.returns-in_err-telling-clause-err
returns-in_err-telling-clause-err g c =
    on_err c.from_residual.result _ (nothing_printed (g.S.Shelf.holds c.args.shelf.now) (asked c.args.question) (g.W.Write.contents c.args.out.now))

pub returns-in_err-put-clause-err : goal.returns-in_err-put-clause-err
returns-in_err-put-clause-err g c =
    on_err c.from_residual-in_err-put.result _
    (front_printed (g.S.Shelf.holds c.args.shelf.now) (asked c.args.question) (g.W.Write.contents c.args.out.now) (g.W.Write.contents c.put.new.out) c.in_ok-telling.telling.answer c.in_ok-telling.telling.text.items c.in_ok-telling.telling.said.items
    c.deref.result.now c.in_ok-telling.ensures c.deref.ensures.value c.in_err-put.ensures.err)
