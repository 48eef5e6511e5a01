use Rattle.std.proofs.Common.{Ok, Err, arith}
use Rattle.std.proofs.lemmas.Grind.{common_steps}
use Rattle.refusals.specs.declared.reasons.Refusal.TheVariants.{NoFrame}
use Rattle.frames.specs.Read.{read_frame, frame_by_kind}
use Rattle.frames.specs.Size.{readable}
use Rattle.frames.proofs.Exactly.{read_told}
use Rattle.frames.proofs.reading.read_frame.Goals as goal

pub returns-in-Some : goal.returns-in-Some
unfolding read_frame frame_by_kind readable
returns-in-Some c = read_told c.args.bytes.now (Ok c.frame_of.result) (grind (arith, common_steps))

pub returns-in_default : goal.returns-in_default
unfolding read_frame frame_by_kind readable
returns-in_default c = read_told c.args.bytes.now (Err NoFrame) (grind (arith, common_steps))

pub returns-in_default-2 : goal.returns-in_default-2
unfolding read_frame frame_by_kind readable
returns-in_default-2 c = read_told c.args.bytes.now (Err NoFrame) (grind (arith, common_steps))
