use Rattle.history.proofs.Faithful.{promised_given}
use Rattle.promises.proofs.Agrees.{none_holds}
use Rattle.promises.proofs.histories.state_told.Goals as goal

pub returns-clause-agrees : goal.returns-clause-agrees
returns-clause-agrees c = λ s r xs b t. (promised_given s r xs b t).state

pub returns-clause-consistent : goal.returns-clause-consistent
returns-clause-consistent c = λ s r xs b t z. none_holds _ ((promised_given s r xs b t).state.consistent.good z)
