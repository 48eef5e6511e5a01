-- A call that reads nothing of the medium leaves it as it was, whatever it holds; one that is lent no reply buffer leaves that too.
use Rattle.std.proofs.Common.{Result, Ok, Err, ◌≡◌, refl, sym, ap, subst, ◌∙◌, true, false, true≢false, List, [], ℕ, length}
use Rattle.bits.specs.Laid.{overlay}
use Rattle.frames.specs.Cut.{joined_bytes}
use Rattle.frames.specs.Write.{FrameValue}
use Rattle.refusals.specs.declared.reasons.Refusal.{Refusal}
use Rattle.rules.specs.Call.{Call}
use Rattle.rules.specs.Handed.{handed}
use Rattle.rules.specs.Medium.{Touch, leaves, touch_of, sent_by, part_of, kept_by}
use Rattle.rules.specs.declared.acts.Act.{Act}
use Rattle.rules.proofs.TestLaws.{test_laws}
use Rattle.rules.proofs.Ruled as by
use Rattle.replies.specs.Replies.{replies_of, sent_all}
use Rattle.device.specs.Lent.{lent, gave, frame_in}
use Rattle.device.specs.FactsOf.{medium_wrong, facts_of}
use Rattle.device.specs.Step.{Step, state_shown, step_by, Gives, act_of, step, Given}
use Rattle.device.specs.declared.state.Device.{Device}
use Rattle.device.specs.declared.state.Outcome.{Outcome}
use Rattle.device.proofs.Turns.{by_turn, act_ruled}
use Rattle.device.proofs.Rulings.{own_keeps}

-- a call that is lent no medium
abbrev pub Unlent : Call → Type 0
Unlent c = (handed c).medium ≡ false

-- sends nothing of it, where its act leaves it
part_left : (t : Touch) (m : List ℕ) → t ≡ leaves → sent_by t m ≡ []
part_left t m e = ap (λ (x : Touch). sent_by x m) e

module _ (d : Device) (c : Call) (m b : List ℕ) where
  -- it is decided without it
  act_unlent : Unlent c → act_of d (lent c [] b) ≡ act_of d (lent c m b)
  unfolding act_of
  act_unlent u = (test_laws (facts_of d (lent c m b)) c).unlent u (medium_wrong d.settings.capacity 0)

  -- and leaves it
  pub act_leaves : (a : Act) → Unlent c → Ok a ≡ act_of d (lent c m b) → touch_of a ≡ leaves
  act_leaves a u q = by.ruled_leaves (facts_of d (lent c m b)) u (act_ruled d (lent c m b) a q)

  -- what it gives without a medium it gives with any, and gives that back as it was
  unlent_by : (b' : List ℕ) (r : Outcome) (x : Result Act Refusal) → Unlent c → x ≡ act_of d (lent c m b) → Gives (step_by d (lent c [] b) x) b (gave r [] b') → Gives (step_by d (lent c m b) x) b (gave r m b')
  unlent_by b' r (Err e) u q h = record { state = h.state; refusal = h.refusal; len = h.len; reply = h.reply; medium = refl }
  unlent_by b' r (Ok a) u q h =
      let e = act_leaves a u q in
      let fs : replies_of (state_shown d) (part_of a []) a ≡ replies_of (state_shown d) (part_of a m) a = ap (λ (p : List ℕ). replies_of (state_shown d) p a) (part_left (touch_of a) [] e ∙ sym (part_left (touch_of a) m e)) in
      record {
        state = h.state;
        refusal = h.refusal;
        len = h.len ∙ ap (λ (x : List FrameValue). length (sent_all x)) fs;
        reply = h.reply ∙ ap (λ (x : List FrameValue). overlay (sent_all x) b) fs;
        medium = sym (ap (λ (t : Touch). kept_by t (frame_in c) m) e);
      }

pub unlent : (d : Device) (c : Call) (m b b' : List ℕ) (r : Outcome) → Unlent c → Given d (lent c [] b) (gave r [] b') → Given d (lent c m b) (gave r m b')
unlent d c m b b' r u h =
    unlent_by d c m b b' r (act_of d (lent c m b)) u refl (subst (λ (x : Result Act Refusal). Gives (step_by d (lent c [] b) x) b (gave r [] b')) (act_unlent d c m b u) h)

-- ---- a call that is lent neither medium nor reply buffer

-- replies nothing
pub ruled_silent : (d : Device) (m b part : List ℕ) {c : Call} {a : Act} → (handed c).buffer ≡ false → by.Ruled (facts_of d (lent c m b)) c (Ok a) → replies_of (state_shown d) part a ≡ []
ruled_silent d m b part u (by.host f a g w s h) = absurd (true≢false u)
ruled_silent d m b part u (by.own o) = (own_keeps d m b o).silent u part

pub silent_frames : (d : Device) (c : Call) (m b : List ℕ) → (handed c).buffer ≡ false → (step d (lent c m b)).frames ≡ []
silent_frames d c m b u = by_turn d (lent c m b) (λ (s : Step). s.frames ≡ []) (λ r q. refl) (λ a q. ruled_silent d m b (part_of a m) u (act_ruled d (lent c m b) a q))

module _ (d : Device) (c : Call) (m b : List ℕ) where
  -- is decided without them
  act_alone : Unlent c → (handed c).buffer ≡ false → act_of d (lent c [] []) ≡ act_of d (lent c m b)
  unfolding act_of
  act_alone u h = (test_laws (facts_of d (lent c [] b)) c).unbuffered h true ∙ act_unlent d c m b u

  -- and what it gives with neither it gives with any, and gives both back as they were
  alone_by : (r : Outcome) (x : Result Act Refusal) → Unlent c → (handed c).buffer ≡ false → x ≡ act_of d (lent c m b) → Gives (step_by d (lent c [] []) x) [] (gave r [] []) → Gives (step_by d (lent c m b) x) b (gave r m b)
  unfolding sent_all joined_bytes
  alone_by r (Err e) u k q h = record { state = h.state; refusal = h.refusal; len = h.len; reply = refl; medium = refl }
  alone_by r (Ok a) u k q h =
      let silent = λ (part : List ℕ). ruled_silent d m b part k (act_ruled d (lent c m b) a q) in
      let fs = silent (part_of a m) in
      record {
        state = h.state;
        refusal = h.refusal;
        len = h.len ∙ ap (λ (x : List FrameValue). length (sent_all x)) (silent (part_of a []) ∙ sym fs);
        reply = sym (ap (λ (x : List FrameValue). overlay (sent_all x) b) fs);
        medium = sym (ap (λ (t : Touch). kept_by t (frame_in c) m) (act_leaves d c m b a u q));
      }

pub unlent_both : (d : Device) (c : Call) (m b : List ℕ) (r : Outcome) → Unlent c → (handed c).buffer ≡ false → Given d (lent c [] []) (gave r [] []) → Given d (lent c m b) (gave r m b)
unlent_both d c m b r u k h =
    alone_by d c m b r (act_of d (lent c m b)) u k refl (subst (λ (x : Result Act Refusal). Gives (step_by d (lent c [] []) x) [] (gave r [] [])) (act_alone d c m b u k) h)

-- so an empty buffer stays as it is
pub given_silent : (d : Device) (c : Call) (b' : List ℕ) (r : Outcome) → (handed c).buffer ≡ false → Given d (lent c [] []) (gave r [] b') → Given d (lent c [] []) (gave r [] [])
unfolding sent_all joined_bytes
given_silent d c b' r k h =
    record { state = h.state; refusal = h.refusal; len = h.len; reply = sym (ap (λ (x : List FrameValue). overlay (sent_all x) []) (silent_frames d c [] [] k)); medium = h.medium }
