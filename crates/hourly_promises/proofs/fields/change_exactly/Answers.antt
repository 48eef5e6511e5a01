use Rattle.hourly_table.proofs.ChangeLaws.{change_exactly}
use Rattle.hourly_promises.proofs.fields.change_exactly.Goals as goal

pub returns : goal.returns
returns c = λ samples hour number change. change_exactly samples hour number change
