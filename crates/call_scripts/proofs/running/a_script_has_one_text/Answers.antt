use Rattle.call_scripts.proofs.OneText.{script_once, broken_once, check_once}
use Rattle.call_scripts.proofs.OneCheck.{checked_once}
use Rattle.call_scripts.proofs.running.a_script_has_one_text.Goals as goal

pub returns-clause-over : goal.returns-clause-over
returns-clause-over c = script_once

pub returns-clause-broken : goal.returns-clause-broken
returns-clause-broken c = broken_once

pub returns-clause-checked : goal.returns-clause-checked
returns-clause-checked c = check_once

pub returns-clause-all_checked : goal.returns-clause-all_checked
returns-clause-all_checked c = checked_once
