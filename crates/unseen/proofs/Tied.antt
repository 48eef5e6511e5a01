-- What is promised says what it is to say.
use Rattle.bits.specs.Contract.{Says}
use Rattle.bits.proofs.Tying.{say}
use Rattle.unseen.specs.Sequences.{SequencesAlike}
use Rattle.unseen.specs.Lines.{LinesAlike, OthersWhole}
use Rattle.unseen.proofs.runs
use Rattle.unseen.specs.contracts.runs as runs-said

pub tied_sequences_unseen : Says runs-said.sequences_unseen.ended runs.sequences_unseen.Reads.Asked runs.sequences_unseen.Reads.Post (λ κs a r ws. SequencesAlike)
tied_sequences_unseen = say (λ κs a. tt) (λ κs a r ws p. p)

pub tied_lines_unseen : Says runs-said.lines_unseen.ended runs.lines_unseen.Reads.Asked runs.lines_unseen.Reads.Post (λ κs a r ws. LinesAlike × OthersWhole)
tied_lines_unseen = say (λ κs a. tt) (λ κs a r ws p. (p.0, p.1))
