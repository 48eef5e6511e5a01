use Rattle.std.proofs.Common.{sym, ◌∙◌}
use Rattle.device.proofs.Doing.{given_refused, given_happened}
use Rattle.device.proofs.NeverCalls.{sound_done}
use Rattle.device.proofs.sealed.Sealed.event.Goals as goal

pub returns-in_err-act : goal.returns-in_err-act
returns-in_err-act c = given_refused _ _ _ _ _ c.from_residual.ensures.1 c.in_err-act.was c.event_act.ensures.act

pub returns : goal.returns
returns c = given_happened _ _ _ _ _ _ _ _ _ (sym c.in_ok-act.was ∙ c.event_act.ensures.act) c.part.ensures c.done.ensures.state c.done.ensures.reply

pub invariant_of-self : goal.invariant_of-self
invariant_of-self c = record { sound = sound_done _ _ _ _ c.event_act.ensures.typed (sym c.in_ok-act.was ∙ c.event_act.ensures.act) c.done.ensures.state }
