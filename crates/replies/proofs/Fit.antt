-- What each act's replies ask of it, so that every one of them can be written.
use Rattle.std.proofs.Common.{◌≡◌, true, List, [], ◌∷◌, ℕ, ◌^◌, ◌<◌, length}
use Rattle.bits.specs.Little.{Bytes}
use Rattle.frames.specs.Shared.{task_fits}
use Rattle.frames.specs.Size.{payload_size}
use Rattle.frames.specs.Write.{FrameValue, fits}
use Rattle.pages.specs.Page10.{fits10}
use Rattle.counters.specs.Rows.{keeps_both}
use Rattle.identity.specs.Words.{fits_identity}
use Rattle.device_state.specs.State.{placed_bytes}
use Rattle.replies.specs.StateShown.{StateShown}
use Rattle.rules.specs.declared.acts.Act.{Act}
use Rattle.rules.specs.declared.acts.Act.TheVariants.{Bad, BadAndHalt, Accept, Log10, Log11, Identify, Open, Send, Finish, Media}
use Rattle.replies.specs.Replies.{log_of}

-- every frame of a list can be written
unfoldable pub Fitting : List FrameValue → Type 0
Fitting [] = Unit
Fitting (f ∷ fs) = (fits f ≡ true) × Fitting fs

-- by the act; where the replies are the same whatever it holds, nothing is asked
unfoldable pub Fit : StateShown → List ℕ → Act → Type 0
Fit s part (Bad b) = (b.error < 256) × (task_fits b.task ≡ true)
Fit s part (BadAndHalt f) = (f.error < 256) × Bytes (placed_bytes f.echo)
Fit s part (Accept q) = Bytes (placed_bytes q.entry.echo)
Fit s part (Log10 task) = (task_fits task ≡ true) × (fits10 (log_of s.errors) ≡ true)
Fit s part (Log11 l) = (task_fits l.task ≡ true) × (keeps_both s.mask ≡ true)
Fit s part (Identify task) = (task_fits task ≡ true) × (fits_identity s.identity ≡ true)
Fit s part (Open q) = q.tag < 2 ^ 32
Fit s part (Send m) = payload_size (length part) ≡ true
Fit s part (Finish set) = set < 2 ^ 32
Fit s part (Media f) = f.error < 256
Fit s part _ = Unit
