use Rattle.std.proofs.Common.{arith, sym, subst, Some}
use Rattle.device_state.specs.declared.shapes.Settings.{Settings}
use Rattle.events.specs.Settings.{FirstSettings}
use Rattle.events.proofs.Records.{spelt}
use Rattle.events.proofs.settings.first_settings.Goals as goal

pub returns : goal.returns
returns c =
    subst (λ (s : Settings). FirstSettings c.args.bytes.now (Some s)) (sym c.settings_of.ensures)
    (spelt c.args.bytes.now (λ i. omega (arith, c.type_inv.bytes i)) c.if-bytes-lt-SETTINGS_SIZE.false c.if-bytes-ne-SETTINGS_KIND.false)
