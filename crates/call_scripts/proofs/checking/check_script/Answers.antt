use Rattle.call_scripts.proofs.CheckLaws.{check_read, known_as}
use Rattle.call_scripts.proofs.checking.check_script.Goals as goal

-- what was read is the script
pub returns-in-Ok : goal.returns-in-Ok
returns-in-Ok g c = check_read _ _ _ _ _ _ (known_as _ _ _ c.deref.ensures.value c.in-Ok.ensures) c.check_bytes.ensures
