use Rattle.history.proofs.Faithful.{promised_given}
use Rattle.promises.proofs.histories.carried_once.Goals as goal

pub returns-clause-ranges : goal.returns-clause-ranges
returns-clause-ranges c = λ s r xs b t. (promised_given s r xs b t).faithful.ranges

pub returns-clause-contents : goal.returns-clause-contents
returns-clause-contents c = λ s r xs b t. (promised_given s r xs b t).faithful.contents
