use Rattle.events.proofs.Steps.{kept_is, told_is}
use Rattle.events.specs.Running.{step_of}
use Rattle.events.proofs.bench.Bench.play_and_tell.Goals as goal

pub returns-clause-kept : goal.returns-clause-kept
returns-clause-kept g c =
    let o = c.play-answer in
    kept_is c.args.self.now (step_of c.args.self.now c.args.event.now) o.new.self.device o.result o.new.self.medium o.new.self.reply o.ensures

pub returns-clause-line : goal.returns-clause-line
returns-clause-line g c =
    let o = c.play-answer in
    let line = told_is c.args.traced c.args.number (step_of c.args.self.now c.args.event.now) c.args.self.now.reply o.new.self.device o.result o.new.self.medium o.new.self.reply c.err.result c.unwrap_or.result c.err.ensures.value c.unwrap_or.ensures o.ensures in
    rw (c.outstanding.ensures, c.replies.ensures, line) at c.tell.ensures
