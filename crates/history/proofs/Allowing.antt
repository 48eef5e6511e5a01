-- Sequences of results that the contracts allow exist, whatever the settings and the calls: what is said of all of them is said of some.
use Rattle.std.proofs.Common.{◌≡◌, refl, sym, ap, false, List, [], ◌∷◌, ℕ}
use Rattle.std.specs.Borrow.{Bor, MutBor}
use Rattle.bits.specs.Laid.{overlay}
use Rattle.frames.specs.Cut.{joined_bytes}
use Rattle.frames.specs.Write.{FrameValue}
use Rattle.replies.specs.Replies.{sent_all}
use Rattle.rules.specs.Handed.{handed}
use Rattle.rules.specs.Medium.{Touch, kept_by}
use Rattle.rules.specs.Call.{Call, host_frame, happens}
use Rattle.rules.specs.declared.event.DeviceEvent.TheVariants.{OpenPhase, SendData, FinishTags, MediaError, LinkEvent, LinkTally, Comreset}
use Rattle.device_state.specs.declared.shapes.Settings.{Settings}
use Rattle.device.specs.Device.{power_on}
use Rattle.device.specs.Step.{Step, step, Given}
use Rattle.device.specs.Lent.{Lent, lent, Gave, gave, frame_in}
use Rattle.device.specs.declared.state.Device.{Device}
use Rattle.device.proofs.Turns.{by_turn}
use Rattle.device.proofs.Doing.{event_left}
use Rattle.device.proofs.Lending.{Unlent, act_leaves, silent_frames}
use Rattle.history.specs.Run.{Done, done, result}
use Rattle.history.specs.Follows.{FollowsBy, lents}
use Rattle.history.proofs.Allowed.{Allowed, hosted, opened, sent, finished, failed, linked, tallied, reset, BeganCode}

-- bytes as they are lent
abbrev lent_to : List ℕ → Bor (List ℕ)
lent_to l = record { ref_ptr = (0, 0); now = l }

abbrev lent_for : List ℕ → MutBor (List ℕ)
lent_for l = record { ref_ptr = (0, 0); ghost_name = 0; now = l }

-- the medium stays of a call that is not lent it, and of a send
unlent_left : (d : Device) (c : Call) (m b : List ℕ) → Unlent c → (step d (lent c m b)).medium ≡ m
unlent_left d c m b u = by_turn d (lent c m b) (λ (s : Step). s.medium ≡ m) (λ r q. refl) (λ a q. ap (λ (t : Touch). kept_by t (frame_in c) m) (act_leaves d c m b a u q))

sent_left : (d : Device) (m b : List ℕ) → (step d (lent (happens SendData) m b)).medium ≡ m
sent_left d m b = by_turn d (lent (happens SendData) m b) (λ (s : Step). s.medium ≡ m) (λ r q. refl) (λ a q. sym (event_left d SendData m b a q))

-- a call that is lent no buffer leaves the empty one as it is
silent_left : (d : Device) (c : Call) → (handed c).buffer ≡ false → (result d (lent c [] [])).buffer ≡ []
unfolding sent_all joined_bytes
silent_left d c u = ap (λ (x : List FrameValue). overlay (sent_all x) []) (silent_frames d c [] [] u)

-- what the definitions give is as the one contract promises it, with a medium and a buffer that are the same
gives : (d : Device) (l : Lent) (m b : List ℕ) → (result d l).medium ≡ m → (result d l).buffer ≡ b → Given d l (gave (result d l).outcome m b)
gives d l m b e k = record { state = refl; refusal = refl; len = refl; reply = sym k; medium = sym e }

-- where a call is not lent the medium its contract knows of none
bare : (d : Device) (c : Call) (b : List ℕ) → Unlent c → Given d (lent c [] b) (gave (result d (lent c [] b)).outcome [] (result d (lent c [] b)).buffer)
bare d c b u = gives d (lent c [] b) [] _ (unlent_left d c [] b u) refl

-- nor, where it is not lent a buffer, of one
nowhere : (d : Device) (c : Call) → Unlent c → (handed c).buffer ≡ false → Given d (lent c [] []) (gave (result d (lent c [] [])).outcome [] [])
nowhere d c u s = gives d (lent c [] []) [] [] (unlent_left d c [] [] u) (silent_left d c s)

-- every call is allowed some result, in every state and with anything lent
pub allowed_some : (d : Device) (c : Call) (m b : List ℕ) → (g : Gave) × Allowed d (lent c m b) g
allowed_some d (host_frame f) m b = (_, hosted ([], ([], ([], tt))) (lent_to f) (lent_for m) (lent_for b) _ _ _ (gives d (lent (host_frame f) m b) _ _ refl refl))
allowed_some d (happens (OpenPhase t)) m b = (_, opened ([], tt) t (lent_for b) _ m _ (bare d (happens (OpenPhase t)) b refl))
allowed_some d (happens SendData) m b = (_, sent ([], ([], tt)) (lent_to m) (lent_for b) _ _ (gives d (lent (happens SendData) m b) m _ (sent_left d m b) refl))
allowed_some d (happens (FinishTags s)) m b = (_, finished ([], tt) s (lent_for b) _ m _ (bare d (happens (FinishTags s)) b refl))
allowed_some d (happens (MediaError t e s)) m b = (_, failed ([], tt) t e s (lent_for b) _ m _ (bare d (happens (MediaError t e s)) b refl))
allowed_some d (happens (LinkEvent r)) m b = (_, linked r _ m b (nowhere d (happens (LinkEvent r)) refl refl))
allowed_some d (happens (LinkTally ns)) m b = (_, tallied ns _ m b (nowhere d (happens (LinkTally ns)) refl refl))
allowed_some d (happens Comreset) m b = (_, reset ([], tt) (lent_for b) _ m _ (bare d (happens Comreset) b refl))

-- and so is every sequence of calls
follows_some : (d : Device) (as' : List Lent) → (xs : List Done) × (FollowsBy Allowed d xs × (lents xs ≡ as'))
unfolding FollowsBy
follows_some d [] = ([], (tt, refl))
follows_some d (a ∷ as') =
    let g = allowed_some d a.call a.medium a.buffer in
    let r = follows_some g.0.outcome.state as' in
    (done a g.0 ∷ r.0, ((g.1, r.1.0), ap (λ (x : List Lent). a ∷ x) r.1.1))

-- from power-on
pub began_some : (s : Settings) (as' : List Lent) → (xs : List Done) × (BeganCode s (power_on s) xs × (lents xs ≡ as'))
began_some s as' =
    let r = follows_some (power_on s).state as' in
    (r.0, (record { power = refl; follows = r.1.0 }, r.1.1))
