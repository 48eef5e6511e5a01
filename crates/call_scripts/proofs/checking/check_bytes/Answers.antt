use Rattle.std.proofs.Common.{◌≡◌, ℕ, List, None, ap, ◌∙◌}
use Rattle.device.specs.Device.{zero_device}
use Rattle.call_scripts.specs.Bench.{kept}
use Rattle.call_scripts.specs.Scripts.{fresh}
use Rattle.call_scripts.proofs.CheckLaws.{check_none}
use Rattle.call_scripts.proofs.checking.check_bytes.Goals as goal

pub returns-in_default : goal.returns-in_default
returns-in_default g c = check_none _ _ _ _

pub returns : goal.returns
unfolding fresh
returns g c =
    let bench : c.new.result ≡ fresh c.args.size = c.new.ensures ∙ ap (λ (m : List ℕ). kept zero_device m None) (c.deref_mut.ensures.value ∙ c.in-Ok.ensures) in
    rw bench at c.check_whole.ensures
