use Rattle.history.proofs.Faithful.{promised_given}
use Rattle.promises.proofs.histories.polls_told.Goals as goal

pub returns-clause-counter : goal.returns-clause-counter
returns-clause-counter c = λ s r xs b t. (promised_given s r xs b t).state.asked

pub returns-clause-outstanding : goal.returns-clause-outstanding
returns-clause-outstanding c = λ s r xs b t. (promised_given s r xs b t).state.count

pub returns-clause-due : goal.returns-clause-due
returns-clause-due c = λ s r xs b t. (promised_given s r xs b t).state.due
