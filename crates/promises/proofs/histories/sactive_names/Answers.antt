use Rattle.history.proofs.Faithful.{promised_given}
use Rattle.promises.proofs.histories.sactive_names.Goals as goal

pub returns-clause-calm : goal.returns-clause-calm
returns-clause-calm c = λ s r xs b t. (promised_given s r xs b t).faithful.sactive

pub returns-clause-waits : goal.returns-clause-waits
returns-clause-waits c = λ s r xs b t. (promised_given s r xs b t).faithful.waiting
