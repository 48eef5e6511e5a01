use Rattle.std.proofs.Common.{rules, ◌∙◌}
use Rattle.rules.proofs.Failing.{failing_is}
use Rattle.rules.proofs.device_events.failing.Goals as goal

pub returns : goal.returns
returns c = c.from-3.ensures ∙ rw (c.from.ensures, c.from-2.ensures) (failing_is c.args.echo c.args.sector (search rules) (search rules))
