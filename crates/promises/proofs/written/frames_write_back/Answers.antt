use Rattle.frames.proofs.TripBack.{encoded_again}
use Rattle.promises.proofs.written.frames_write_back.Goals as goal

pub returns : goal.returns
returns c = λ l b f e. (encoded_again l b f e).1
