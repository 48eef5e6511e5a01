-- A device register reply repeats bytes 4-10 and 12-13 of the command.
use Rattle.std.proofs.Common.{Option, ◌≡◌, refl, ap, true, List, [], ◌∷◌, ℕ}
use Rattle.frames.specs.Shared.{task_fits}
use Rattle.frames.specs.declared.shared.Task.{Task}
use Rattle.frames.specs.Write.{FrameValue}
use Rattle.frames.specs.declared.shapes.HostReg.{HostReg}
use Rattle.rules.specs.Decide.{bad, fault, tag_asked, entry_for}
use Rattle.replies.specs.StateShown.{StateShown}
use Rattle.rules.specs.declared.acts.Act.TheVariants.{Accept}
use Rattle.device_state.proofs.EchoLaws.{echo_task}
use Rattle.replies.specs.Replies.{good, bad_reply, replies_of}

abbrev one : FrameValue → List FrameValue
one f = f ∷ []

module _ (s : StateShown) (part : List ℕ) (h : HostReg) where
  -- bad without a halt
  pub bad_repeats : (e : ℕ) → replies_of s part (bad h e) ≡ bad_reply e h.task ∷ []
  unfolding replies_of
  bad_repeats e = refl

  -- bad with a halt
  pub fault_repeats : (t : Option ℕ) (e : ℕ) → task_fits h.task ≡ true → replies_of s part (fault h t e) ≡ bad_reply e h.task ∷ []
  unfolding replies_of
  fault_repeats t e f = ap (λ (x : Task). one (bad_reply e x)) (echo_task h.task f)

  -- good
  pub accept_repeats : task_fits h.task ≡ true → replies_of s part (Accept (record { tag = tag_asked h; entry = entry_for h })) ≡ good h.task ∷ []
  unfolding replies_of
  accept_repeats f = ap (λ (x : Task). one (good x)) (echo_task h.task f)
