use Rattle.hourly_promises.proofs.LineLaws.{page_worded}
use Rattle.hourly_promises.proofs.lines.line_worded.Goals as goal

pub returns-clause-page : goal.returns-clause-page
returns-clause-page c = page_worded
