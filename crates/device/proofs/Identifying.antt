-- A device that has nothing to do answers IDENTIFY DEVICE with its page, and stays as it is.
use Rattle.std.proofs.Common.{None, Ok, ◌≡◌, refl, ap, ◌∙◌, true, false, List, [], ◌∷◌, ℕ, ◌≤◌, length, eq-eqb, le-ltb}
use Rattle.bits.proofs.Picks.{pick_yes}
use Rattle.refusals.specs.First.{first_of}
use Rattle.frames.specs.Read.{read_frame}
use Rattle.frames.specs.Write.{payload}
use Rattle.frames.specs.declared.shapes.HostReg.{HostReg}
use Rattle.frames.specs.declared.shapes.Frame.TheVariants.{Host}
use Rattle.identity.specs.Words.{fits_identity}
use Rattle.identity.specs.Page.{identity_page}
use Rattle.device_state.specs.State.{medium_size}
use Rattle.rules.specs.Call.{host_frame}
use Rattle.rules.specs.Tests.{wrong_kind, wrong_time, wrong_size, tests}
use Rattle.rules.specs.Decide.{other_act, register_act, frame_act}
use Rattle.rules.specs.Act.{does, act}
use Rattle.rules.specs.Medium.{touch_of}
use Rattle.rules.specs.declared.acts.Act.TheVariants.{Identify}
use Rattle.replies.specs.Replies.{pio_reply, replies_of}
use Rattle.device.specs.Device.{contradictory_device}
use Rattle.device.specs.Lent.{Lent, lent}
use Rattle.device.specs.After.{after_of}
use Rattle.device.specs.Step.{identity_told, act_of, step_by, step}
use Rattle.device.specs.declared.state.Device.{Device}
use Rattle.device.proofs.Keeping.{identity_fits}

-- nothing is outstanding or open, no halt, no reset held
pub record Free (d : Device) : Type 0 where
  pub sound : contradictory_device d ≡ false
  pub idle : d.status.outstanding ≡ 0
  pub calm : d.status.phase ≡ None
  pub awake : d.status.halted ≡ false
  pub released : d.status.held ≡ false

-- a 27h with C on and ECh, whatever its other bytes
pub record Identifies (f : List ℕ) (h : HostReg) : Type 0 where
  pub read : read_frame f ≡ Ok (Host h)
  pub command : h.command_bit ≡ true
  pub code : h.command ≡ 0xEC

module _ (d : Device) (h : HostReg) (f m b : List ℕ) (s : Free d) (i : Identifies f h) (long : length m ≡ medium_size d.settings.capacity) (room : 8196 ≤ length b) where
  abbrev asked : Lent
  asked = lent (host_frame f) m b

  act_is : act_of d asked ≡ Ok (Identify h.task)
  unfolding act_of act tests first_of does wrong_kind wrong_time wrong_size frame_act register_act other_act
  act_is = rw (i.read, i.command, i.code, s.sound, s.idle, s.calm, s.awake, s.released, eq-eqb (length m) (medium_size d.settings.capacity) long, le-ltb (length b) 8196 room) refl

  -- the state stays, and so does the medium; PIO Setup, and the page of depth and capacity
  pub identify_good : step d asked ≡ record { state = d; refusal = None; frames = pio_reply h.task ∷ payload (identity_page (identity_told d.settings)) ∷ []; medium = m }
  unfolding after_of replies_of touch_of
  identify_good =
      ap (step_by d asked) act_is
      ∙ ap (λ (page : List ℕ). record { state = d; refusal = None; frames = pio_reply h.task ∷ payload page ∷ []; medium = m }) (pick_yes (fits_identity (identity_told d.settings)) (identity_page (identity_told d.settings)) [] (identity_fits d s.sound))
