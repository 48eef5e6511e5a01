use Rattle.call_scripts.proofs.NamedLaws.{said_then}
use Rattle.call_scripts.proofs.check_ends.say_all.Goals as goal

pub returns : goal.returns
returns g c = said_then _ _ _ _ _ _ c.in_ok-put.ensures.ok c.say_last.ensures
