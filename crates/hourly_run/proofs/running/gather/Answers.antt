use Rattle.hourly_run.specs.Kept.{telling_told}
use Rattle.hourly_run.specs.Pages.{shelved}
use Rattle.hourly_run.proofs.Owing.{stopped_owes}
use Rattle.hourly_run.proofs.Came.{ok_so}
use Rattle.hourly_run.proofs.running.gather.Goals as goal

pub returns : goal.returns
returns g c =
    ok_so c.unread.result _ _ c.unread.ensures (λ t e. stopped_owes c.args.file.now (shelved g.S.Shelf.holds c.args.shelf) c.args.numbers.now (g.R.Read.remaining c.args.reader.now) (telling_told t) e)
