use Rattle.history.proofs.Faithful.{promised_given}
use Rattle.promises.proofs.histories.reply_rules.Goals as goal

pub returns : goal.returns
returns c = λ s r xs b t. (promised_given s r xs b t).replies
