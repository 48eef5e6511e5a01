use Rattle.std.proofs.Common.{◌∙◌, subst}
use Rattle.std.specs.Io.KnownBytes.{Consumes}
use Rattle.events.specs.Settings.{NoSettingsBegin}
use Rattle.events.proofs.Fronts.{on_err}
use Rattle.events.proofs.Records.{whole, settings_short}
use Rattle.events.proofs.Parts.{body_stuck, body_short, body_whole}
use Rattle.events.proofs.reading.read_settings.Goals as goal

pub returns-in_err-read_body-clause-err : goal.returns-in_err-read_body-clause-err
returns-in_err-read_body-clause-err g c =
    let read = rw c.in-Some.is at c.in_ok-kind.ensures.ok in
    on_err c.from_residual-in_err-read_body.result _
    (body_stuck NoSettingsBegin c.in-Some.kind 7 (settings_short c.in-Some.kind) _ _ _ read c.read_body.new.event c.read_body.ensures.same c.read_body.ensures.first c.in_err-read_body.ensures.err)

pub returns-then-branch-clause-ok : goal.returns-then-branch-clause-ok
returns-then-branch-clause-ok g c =
    let read = rw c.in-Some.is at c.in_ok-kind.ensures.ok in
    body_short NoSettingsBegin c.in-Some.kind 7 (settings_short c.in-Some.kind) _ _ _ read c.read_body.new.event c.read_body.ensures.same c.read_body.ensures.first _ c.in_ok-read_body.ensures.ok c.if-branch.true

pub returns-clause-ok : goal.returns-clause-ok
returns-clause-ok g c =
    let read = rw c.in-Some.is at c.in_ok-kind.ensures.ok in
    let all = body_whole NoSettingsBegin c.in-Some.kind 7 (settings_short c.in-Some.kind) _ _ _ read c.read_body.new.event c.read_body.ensures.same c.read_body.ensures.first _ c.in_ok-read_body.ensures.ok c.if-branch.false in
    let b = whole c.read_body.new.event c.read_body.ensures.bytes c.read_body.ensures.same (c.read_body.ensures.first ∙ c.if-kind-ne-SETTINGS_KIND.false) in
    rw c.settings_of.ensures (b.0, subst (Consumes _ _) b.1 all)
