-- What the types give of a device holds after every call: the error record and each command's bytes are bytes.
use Rattle.std.proofs.Common.{Option, Some, None, Ok, List, ℕ, lit<, length}
use Rattle.refusals.specs.declared.reasons.Refusal.{Refusal}
use Rattle.frames.proofs.ReadLaws.{read_data}
use Rattle.device_state.specs.declared.shapes.Settings.{Settings}
use Rattle.rules.specs.Call.{Call, host_frame}
use Rattle.rules.specs.declared.acts.Act.{Act}
use Rattle.rules.proofs.Ruled as by
use Rattle.device.specs.Device.{fresh_device, power_refusal, powered, power_on}
use Rattle.device.specs.Lent.{Lent, lent, Typed}
use Rattle.device.specs.FactsOf.{medium_wrong, unready_in, facts_of}
use Rattle.device.specs.Step.{Step, step}
use Rattle.device.specs.declared.state.Device.{Device}
use Rattle.device.proofs.Turns.{by_turn, act_ruled}
use Rattle.device.proofs.Fitting.{read_fits}
use Rattle.device.proofs.Widths.{SmallAll, Wide, zero_small, idle_small}
use Rattle.device.proofs.Effects.{traits, Puts, act_wide}
use Rattle.device.proofs.Rulings.{heard_keeps, own_keeps}

-- a taken call
ruled_puts : (d : Device) (m b : List ℕ) → SmallAll d.entries → {c : Call} {a : Act} → Typed c → by.Ruled (facts_of d (lent c m b)) c (Ok a) → Puts a
unfolding traits
ruled_puts d m b e t (by.host f a g w s h) = (heard_keeps d (medium_wrong d.settings.capacity (length m)) (unready_in d (host_frame f)) (length b) g _ f (read_data f) h).puts (read_fits f t.0) e
ruled_puts d m b e t (by.own o) = (own_keeps d m b o).keeps.puts t e

-- every call whose arguments are of their types keeps it
pub wide_step : (d : Device) (l : Lent) → Typed l.call → Wide d → Wide (step d l).state
wide_step d l t w = by_turn d l (λ (s : Step). Wide s.state) (λ r q. w) (λ a q. act_wide d a w (ruled_puts d l.medium l.buffer w.entries t (act_ruled d l a q)))

-- power-on, refused or not, gives it
fresh_wide : (s : Settings) → Wide (fresh_device s)
unfolding fresh_device
fresh_wide s = record { sized = record { error = lit< tt; echo = zero_small }; entries = idle_small }

powered_wide : (r : Option Refusal) (s : Settings) → Wide (powered r s)
powered_wide None s = fresh_wide s
powered_wide (Some r) s = fresh_wide _

pub wide_start : (s : Settings) → Wide (power_on s).state
unfolding power_on
wide_start s = powered_wide (power_refusal s) s
