use Rattle.std.proofs.Common.{arith, sym, ◌∙◌}
use Rattle.device.proofs.Doing.{given_refused, given_heard}
use Rattle.device.proofs.NeverCalls.{sound_done}
use Rattle.device.proofs.sealed.Sealed.host_frame.Goals as goal

pub returns-in_err-act : goal.returns-in_err-act
returns-in_err-act c = given_refused _ _ _ _ _ c.from_residual.ensures.1 c.in_err-act.was c.frame_act.ensures

pub returns : goal.returns
returns c = given_heard _ _ _ _ _ _ _ _ _ (sym c.in_ok-act.was ∙ c.frame_act.ensures) c.store.ensures c.done.ensures.state c.done.ensures.reply

pub invariant_of-self : goal.invariant_of-self
invariant_of-self c = record { sound = sound_done _ _ _ _ (omega arith) (sym c.in_ok-act.was ∙ c.frame_act.ensures) c.done.ensures.state }
