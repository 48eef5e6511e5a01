use Rattle.caller.proofs.Continuing.{continues_given}
use Rattle.caller.proofs.Values.{typed_value}
use Rattle.caller.proofs.playing.play_by_value.Goals as goal

pub returns : goal.returns
returns c = continues_given _ _ _ (typed_value _ c.args.event c.well_formed.1.0) c.play_by_value.ensures
