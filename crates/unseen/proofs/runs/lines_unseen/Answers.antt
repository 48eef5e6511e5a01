use Rattle.unseen.proofs.Lines.{lines_alike, others_whole}
use Rattle.unseen.proofs.runs.lines_unseen.Goals as goal

pub returns-clause-alike : goal.returns-clause-alike
returns-clause-alike c = lines_alike

pub returns-clause-others : goal.returns-clause-others
returns-clause-others c = others_whole
