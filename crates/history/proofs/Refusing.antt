-- Every event is turned down for what the table of refusals says of the history before it (Refused).
use Rattle.std.proofs.Common.{Some, ◌≡◌, refl, sym, ap, ◌∙◌, Bool, true, false, not, ◌||◌, List, ◌∷◌, ℕ, eqb, arith}
use Rattle.refusals.specs.First.{Rung, rung, first_of}
use Rattle.refusals.specs.declared.reasons.Refusal.{Refusal}
use Rattle.refusals.specs.declared.reasons.Refusal.TheVariants.{Contradiction, MediumLength, ReplyShort, NoHostFrame, WrongTime, TooLong, TagIdle, PhaseOpen, AllMoved, NoReadPhase, SetUnready, OutsideCommand, NoRow}
use Rattle.frames.specs.Read.{read_frame}
use Rattle.device_state.specs.declared.shapes.Settings.{Settings}
use Rattle.rules.specs.Call.{Call, host_frame, happens}
use Rattle.rules.specs.declared.event.DeviceEvent.TheVariants.{OpenPhase, SendData, FinishTags, MediaError, LinkEvent, LinkTally, Comreset}
use Rattle.rules.specs.Tests.{tests}
use Rattle.device.specs.Device.{contradictory_device}
use Rattle.device.specs.FactsOf.{facts_of}
use Rattle.device.specs.Lent.{Lent, lent}
use Rattle.device.specs.Step.{step}
use Rattle.device.specs.declared.state.Device.{Device}
use Rattle.device.proofs.Turns.{step_refusal}
use Rattle.device.proofs.Zeros.{zeros}
use Rattle.history.specs.Event.{Event}
use Rattle.history.specs.Seen.{Transfer}
use Rattle.history.specs.Run.{result, done, event}
use Rattle.history.specs.ByHistory.{is_open, left_in_transfer}
use Rattle.history.specs.Refused.{out_of_bounds, own_tests}
use Rattle.history.proofs.Soundness.{by_power, Sound}
use Rattle.history.proofs.Knows.{Known}
use Rattle.history.proofs.HeardKinds.{kind_same}
use Rattle.history.proofs.RefusedTests.{power_taken, power_refused, row_same, rows_same, open_same, reading_same, time_same, size_same, passed, moved_same, sector_same, set_same}

-- ---- rows of tests

-- the same test in front of rows that agree where it does not hold
cons_same : (n : Refusal) {a b : Bool} (rs ss : List Rung) → a ≡ b → (b ≡ false → first_of rs ≡ first_of ss) → first_of (rung n a ∷ rs) ≡ first_of (rung n b ∷ ss)
unfolding first_of
cons_same n {a} {b} rs ss e f = grind arith

-- ---- each call

module _ (d : Device) (h : List Event) (k : Known d h) (g : contradictory_device d ≡ false) (m b : List ℕ) where
  -- a call with what is lent to it
  abbrev event_of : Call → Event
  event_of c = event (done (lent c m b) (result d (lent c m b)))

  -- each row
  row : (c : Call) → first_of (tests (facts_of d (lent c m b)) c) ≡ first_of (rung Contradiction false ∷ own_tests d.settings.capacity d.settings.mask (event_of c) h c)
  unfolding tests own_tests
  row (host_frame x) =
      let f = read_frame x in
      cons_same Contradiction _ _ g (λ _. cons_same MediumLength _ _ refl (λ _. cons_same ReplyShort _ _ refl (λ _. cons_same NoHostFrame _ _ (kind_same x) (λ _. cons_same WrongTime _ _ (time_same d h k m b x f) (λ t. cons_same TooLong _ _ (size_same d h k g m b x f t) (λ _. refl))))))
  row (happens (OpenPhase t)) =
      cons_same Contradiction _ _ g (λ _. cons_same ReplyShort _ _ refl (λ _. cons_same TagIdle _ _ (ap not (sym (k.out t)))
      (λ o. cons_same PhaseOpen _ _ (sym (ap is_open k.phase ∙ open_same d)) (λ _. cons_same AllMoved _ _ (moved_same d h k g t (passed d h k t o)) (λ _. refl)))))
  row (happens SendData) =
      cons_same Contradiction _ _ g (λ _. cons_same MediumLength _ _ refl (λ _. cons_same ReplyShort _ _ refl (λ _. cons_same NoReadPhase _ _ (reading_same d g ∙ ap (λ (x : Transfer). eqb (left_in_transfer true x) 0) (sym k.phase)) (λ _. refl))))
  row (happens (FinishTags set)) =
      cons_same Contradiction _ _ g (λ _. cons_same ReplyShort _ _ refl (λ _. cons_same PhaseOpen _ _ (sym (ap is_open k.phase ∙ open_same d)) (λ _. cons_same SetUnready _ _ (set_same d h k g set) (λ _. refl))))
  row (happens (MediaError t e sector)) =
      cons_same Contradiction _ _ g (λ _. cons_same ReplyShort _ _ refl (λ _. cons_same TagIdle _ _ (ap not (sym (k.out t)))
      (λ o. cons_same OutsideCommand _ _ (ap (λ (x : Bool). eqb e 0 || x) (sector_same d h k g t sector (passed d h k t o))) (λ _. refl))))
  row (happens (LinkEvent r)) = cons_same Contradiction _ _ g (λ _. cons_same NoRow _ _ (row_same d.settings.mask r) (λ _. refl))
  row (happens (LinkTally ns)) = cons_same Contradiction _ _ g (λ _. cons_same NoRow _ _ (rows_same d.settings.mask ns) (λ _. refl))
  row (happens Comreset) = cons_same Contradiction _ _ g (λ _. cons_same ReplyShort _ _ refl (λ _. refl))

-- what a call is turned down for, after a history
abbrev pub Turned : Settings → Event → List Event → Type 0
Turned s e h = e.refusal ≡ first_of (rung Contradiction (out_of_bounds s.depth s.capacity s.mask) ∷ own_tests s.capacity s.mask e h e.call)

-- 1 in front of any row
first_one : (o : Bool) (rs : List Rung) → o ≡ true → first_of (rung Contradiction o ∷ rs) ≡ Some Contradiction
unfolding first_of
first_one o rs e = rw e

-- every call after a history that the state follows
pub refusing : (s : Settings) (d : Device) (l : Lent) (h : List Event) → Sound s d → Known d h → Turned s (event (done l (result d l))) h
refusing s d l h i k =
    let e = event (done l (result d l)) in
    by_power s
    (λ z.
    step_refusal d l ∙ row d h k (i.good z) l.medium l.buffer l.call
    ∙ ap (λ (y : Settings). first_of (rung Contradiction false ∷ own_tests y.capacity y.mask e h l.call)) (i.settings z)
    ∙ ap (λ (o : Bool). first_of (rung Contradiction o ∷ own_tests s.capacity s.mask e h l.call)) (sym (power_taken s z)))
    (λ n. ap (λ (y : Device). (step y l).refusal) (i.zeros n) ∙ zeros l ∙ sym (first_one _ _ (power_refused s n)))
