use Rattle.std.proofs.Common.{subst}
use Rattle.device.specs.Lent.{gave, answered}
use Rattle.device.specs.Step.{Gives}
use Rattle.events.specs.Running.{step_of}
use Rattle.events.proofs.Steps.{framed_step}
use Rattle.events.proofs.bench.Bench.play.Goals as goal

pub returns-in-Some : goal.returns-in-Some
returns-in-Some c =
    let o = c.host_frame in
    let k = c.self.inside in
    let is = framed_step k.sealed.device c.args.event.now c.in-Some.frame.now k.medium.now k.reply.now c.in-Some.ensures in
    let given = gave (answered o.new.self.device o.result) o.new.medium o.new.reply in
    subst (λ kept. Gives (step_of kept c.args.event.now) kept.reply given) c.self.view_is (subst (λ s. Gives s k.reply.now given) is o.ensures)
