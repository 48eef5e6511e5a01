-- The files one after the other.
use Rattle.std.proofs.Common.{rules, sym, ap, ltb}
use Rattle.std.proofs.lemmas.List.{length-map}
use Rattle.page_text.proofs.Owing.{on_err}
use Rattle.page_text.proofs.Filing.{none_told, told_more, lost_more, all_told}
use Rattle.page_text.proofs.queries.Query.tell_files.Goals as goal

pub loop-name-init : goal.loop-name-init
loop-name-init g c = none_told _ _ _ _

pub returns-in_err-answer-clause-err : goal.returns-in_err-answer-clause-err
returns-in_err-answer-clause-err g c =
    on_err c.from_residual.result _ (lost_more _ _ _ _ _ _ _ _ _ _ (ap (ltb 1) (sym (length-map _ _))) (search rules) c.loop-name.invariant c.in_err-answer.ensures.err)

pub loop-name-preserved : goal.loop-name-preserved
loop-name-preserved g c = rw (c.max-worst.ensures, c.status.ensures) (told_more _ _ _ _ _ _ _ _ _ _ _ (search rules) c.loop-name.invariant c.in_ok-answer.ensures.ok)

pub returns-clause-ok : goal.returns-clause-ok
returns-clause-ok g c = all_told _ _ _ _ _ _ _ _ (ap (ltb 1) (sym (length-map _ _))) (search rules) c.loop-name.invariant
