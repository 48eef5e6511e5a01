use Rattle.std.proofs.Common.{◌≡◌, ◌∙◌, sym, subst, append-nil, true, false, true≢false, refl}
use Rattle.streams.specs.Gathered.{held_back, Pushes}
use Rattle.events.proofs.Runs.{finished_by}
use Rattle.streams.proofs.Gathering.{pushes_then}
use Rattle.events.proofs.output.finish.Goals as goal

pub returns-then-has_failed : goal.returns-then-has_failed
returns-then-has_failed g c =
    let on : c.pass_on.new.out.failed ≡ true = sym c.has_failed.ensures ∙ c.if-has_failed.true in
    finished_by c.args.end _ _ (held_back c.pass_on.new.self) _ _ c.pass_on.ensures.none (subst (Pushes _ _) (append-nil _ ∙ c.last_text.ensures) (pushes_then c.push.ensures.pushed c.pass_on.ensures.pushed)) (λ e. tt) (λ e. absurd (true≢false (sym on ∙ e)))

pub returns : goal.returns
returns g c =
    let off : c.pass_on.new.out.failed ≡ false = sym c.has_failed.ensures ∙ c.if-has_failed.false in
    finished_by c.args.end _ _ (held_back c.pass_on.new.self) _ _ c.pass_on.ensures.none (subst (Pushes _ _) (append-nil _ ∙ c.last_text.ensures) (pushes_then c.push.ensures.pushed c.pass_on.ensures.pushed)) (λ e. absurd (true≢false (sym e ∙ off))) (λ e. refl)
