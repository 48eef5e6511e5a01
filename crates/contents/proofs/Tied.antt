-- What is promised says what it is to say.
use Rattle.bits.specs.Contract.{Says}
use Rattle.bits.proofs.Tying.{say}
use Rattle.contents.specs.Unseen.{CallsAlike, RestStays, DataVeiled, LentVeiled}
use Rattle.contents.proofs.calls
use Rattle.contents.specs.contracts.calls as calls-said

pub tied_contents_unseen : Says calls-said.contents_unseen.ended calls.contents_unseen.Reads.Asked calls.contents_unseen.Reads.Post (λ κs a r ws. CallsAlike × RestStays × DataVeiled × LentVeiled)
tied_contents_unseen = say (λ κs a. tt) (λ κs a r ws p. (p.0, p.1.0, p.1.1.0, p.1.1.1))
