use Rattle.hourly_run.proofs.Cutting.{cut}
use Rattle.hourly_run.proofs.readings.cut_line.Goals as goal

pub returns-clause-line : goal.returns-clause-line
returns-clause-line c = cut c.args.text.now c.line_length-end.result _ _ c.requires c.line_length-end.ensures c.split_at.ensures.front c.split_at.ensures.back
