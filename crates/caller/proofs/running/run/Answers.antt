use Rattle.caller.proofs.Programs.{program_history}
use Rattle.caller.proofs.running.run.Goals as goal

pub returns-clause-told : goal.returns-clause-told
returns-clause-told g c = program_history c.args.traced
