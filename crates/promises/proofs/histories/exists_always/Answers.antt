use Rattle.history.proofs.Allowing.{began_some}
use Rattle.history.proofs.Contracts.{began_code}
use Rattle.device.specs.Device.{power_on}
use Rattle.promises.proofs.histories.exists_always.Goals as goal

pub returns : goal.returns
returns c = λ s as'. let x = began_some s as' in (power_on s, (x.0, (began_code s (power_on s) x.0 x.1.0, x.1.1)))
