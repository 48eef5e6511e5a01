use Rattle.identity.proofs.Made.{made_of}
use Rattle.promises.proofs.written.identity_made_of.Goals as goal

pub returns : goal.returns
returns c = made_of
