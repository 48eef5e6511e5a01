use Rattle.hourly_run.proofs.Printing.{ran_all, ran_unsaid, ran_lost}
use Rattle.hourly_run.specs.Asked.{asked}
use Rattle.hourly_run.proofs.running.run.Goals as goal

pub returns-in-Ok-put : goal.returns-in-Ok-put
returns-in-Ok-put g c =
    ran_all (g.S.Shelf.holds c.args.shelf.now) (asked c.args.question) (g.W.Write.contents c.args.out.now) (g.W.Write.contents c.print.new.out) (g.E.Write.contents c.args.errors.now) (g.E.Write.contents c.put.new.out)
    c.in-Ok.telling.answer c.in-Ok.telling.text.items c.in-Ok.telling.said.items c.deref.result.now c.status.result c.in-Ok.ensures.ok.0 c.in-Ok.ensures.ok.1 c.deref.ensures.value c.in-Ok-put.ensures.ok c.status.ensures

pub returns-in-Ok : goal.returns-in-Ok
returns-in-Ok g c =
    ran_unsaid (g.S.Shelf.holds c.args.shelf.now) (asked c.args.question) (g.W.Write.contents c.args.out.now) (g.W.Write.contents c.print.new.out) (g.E.Write.contents c.args.errors.now) (g.E.Write.contents c.put.new.out)
    c.in-Ok.telling.answer c.in-Ok.telling.text.items c.in-Ok.telling.said.items c.deref.result.now c.in-Ok.ensures.ok.0 c.in-Ok.ensures.ok.1 c.deref.ensures.value c.in-Err-put.ensures.err

pub returns : goal.returns
returns g c =
    ran_lost (g.S.Shelf.holds c.args.shelf.now) (asked c.args.question) (g.W.Write.contents c.args.out.now) (g.W.Write.contents c.print.new.out) (g.E.Write.contents c.args.errors.now) (g.E.Write.contents c.said_on.new.errors)
    c.in-Err.ensures.err.0 c.in-Err.ensures.err.1 c.said_on.result c.said_on.ensures
