use Rattle.unseen.proofs.Sequences.{sequences_alike}
use Rattle.unseen.proofs.runs.sequences_unseen.Goals as goal

pub returns : goal.returns
returns c = sequences_alike
