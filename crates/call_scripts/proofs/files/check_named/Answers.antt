use Rattle.std.proofs.Common.{Ok, Err, refl, sym, append-nil}
use Rattle.call_scripts.proofs.NamedLaws.{kept_none}
use Rattle.call_scripts.proofs.files.check_named.Goals as goal

-- it was read
pub returns-in-Ok-clause-ok : goal.returns-in-Ok-clause-ok
returns-in-Ok-clause-ok g c =
    let checked = c.in-Ok.ensures in
    (Ok checked.0, checked.1, checked.2.1, checked.2.0, sym (append-nil _))

-- it is unread, and that is said
pub returns-in_ok-push_unread-in-Err-Input-clause-ok : goal.returns-in_ok-push_unread-in-Err-Input-clause-ok
returns-in_ok-push_unread-in-Err-Input-clause-ok g c =
    let why = c.in_ok-push_unread-in-Err-Input.ensures.ok in
    (Err why.0, tt, refl, kept_none _ _ (rw c.in-Err-Input.field-0-is at c.in-Err-Input.ensures), why.1)
