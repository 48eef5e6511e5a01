use Rattle.events.proofs.Cuts.{run_once, broken_once}
use Rattle.events.proofs.running.a_run_has_one_text.Goals as goal

pub returns-clause-over : goal.returns-clause-over
returns-clause-over c = run_once

pub returns-clause-broken : goal.returns-clause-broken
returns-clause-broken c = broken_once
