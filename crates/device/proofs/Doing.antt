-- From what a call comes to, to the contract: a refusal leaves all as it was; of an act that is done the replies are all sent, and its state is handed back.
use Rattle.std.proofs.Common.{Result, Ok, Err, ◌≡◌, refl, sym, ap, subst, ◌∙◌, Bool, true, false, List, [], ⊎_elim, ℕ, leb, length, arith}
use Rattle.std.specs.Result.{IsErrAnd}
use Rattle.std.proofs.lemmas.Result.{err_from_is_err_and}
use Rattle.bits.specs.Pick.{pick}
use Rattle.bits.specs.Laid.{overlay}
use Rattle.bits.proofs.Picks.{tested}
use Rattle.frames.specs.Cut.{joined_bytes}
use Rattle.frames.specs.Write.{FrameValue}
use Rattle.frames.specs.Read.{read_frame}
use Rattle.frames.specs.declared.shapes.Frame.{Frame}
use Rattle.refusals.specs.declared.reasons.Refusal.{Refusal}
use Rattle.device_state.proofs.TableLaws.{some_never}
use Rattle.rules.specs.Call.{host_frame, happens}
use Rattle.rules.specs.declared.event.DeviceEvent.{DeviceEvent}
use Rattle.rules.specs.Handed.{handed}
use Rattle.rules.specs.Tests.{tests, unready_at, some_unready}
use Rattle.rules.specs.Act.{does, act, heard_act}
use Rattle.rules.specs.Medium.{touch_of, part_of, medium_after}
use Rattle.rules.specs.declared.facts.Facts.{Facts}
use Rattle.rules.specs.declared.acts.Act.{Act}
use Rattle.rules.proofs.Ruled as by
use Rattle.replies.specs.Replies.{replies_of, sent_all, RepliesGiven}
use Rattle.device.specs.Lent.{Lent, lent, gave, answered, frame_in}
use Rattle.device.specs.FactsOf.{medium_wrong, facts_with, facts_of}
use Rattle.device.specs.After.{after_of}
use Rattle.device.specs.Step.{state_shown, step_by, Gives, act_of, Given}
use Rattle.device.specs.declared.state.Device.{Device}
use Rattle.device.proofs.Turns.{act_ruled}
use Rattle.bits.proofs.Masks.{no_bit}
use Rattle.device.proofs.Rooms.{roomy}
use Rattle.device.proofs.Lending.{ruled_silent}

-- a call that is refused
pub refused_given : (d : Device) (l : Lent) (r : Refusal) → Err r ≡ act_of d l → Given d l (gave (answered d (Err r)) l.medium l.buffer)
unfolding sent_all joined_bytes
refused_given d l r e =
    subst (λ (x : Result Act Refusal). Gives (step_by d l x) l.buffer (gave (answered d (Err r)) l.medium l.buffer)) e
    (record { state = refl; refusal = refl; len = refl; reply = refl; medium = refl })

-- by the `?` that hands the refusal on
pub given_refused : (d : Device) (l : Lent) (out : Result ℕ Refusal) (x : Result Act Refusal) (r : Refusal) → IsErrAnd out (λ y. y ≡ r) → x ≡ Err r → x ≡ act_of d l → Given d l (gave (answered d out) l.medium l.buffer)
given_refused d l out x r h k e =
    let p = err_from_is_err_and out h in
    let q : Err r ≡ out = sym (p.1 ∙ ap Err p.2) in
    subst (λ (y : Result ℕ Refusal). Given d l (gave (answered d y) l.medium l.buffer)) q (refused_given d l r (sym k ∙ e))

-- what an act replies in a buffer that has the room every call asks for
abbrev pub Replied : Device → List ℕ → Act → List ℕ → ℕ → List ℕ → Type 0
Replied d part a b n b' = RepliesGiven (pick (leb 8196 (length b)) (replies_of (state_shown d) part a) []) b n b'

-- a taken call has it, or replies nothing
room_enough : (d : Device) (l : Lent) (a : Act) (part : List ℕ) → Ok a ≡ act_of d l → pick (leb 8196 (length l.buffer)) (replies_of (state_shown d) part a) [] ≡ replies_of (state_shown d) part a
room_enough d l a part e =
    ⊎_elim (λ (x : (handed l.call).buffer ≡ true). rw (roomy d l a x e) refl)
    (λ (x : (handed l.call).buffer ≡ false). rw (ruled_silent d l.medium l.buffer part x (act_ruled d l a e)) (nothing (leb 8196 (length l.buffer))))
    (tested (handed l.call).buffer)
  where
    nothing : (y : Bool) → pick {A = List FrameValue} y [] [] ≡ []
    nothing y = grind arith

-- an act that is the call's, done
given_by : (d : Device) (l : Lent) (a : Act) (part m' b' : List ℕ) (d' : Device) (n : ℕ) → Ok a ≡ act_of d l → part ≡ part_of a l.medium → m' ≡ medium_after a (frame_in l.call) l.medium
    → d' ≡ after_of d a → Replied d part a l.buffer n b' → Given d l (gave (answered d' (Ok n)) m' b')
given_by d l a part m' b' d' n e p m s w =
    let fs = room_enough d l a part e ∙ ap (λ (q : List ℕ). replies_of (state_shown d) q a) p in
    subst (λ (x : Result Act Refusal). Gives (step_by d l x) l.buffer (gave (answered d' (Ok n)) m' b')) e
    (record {
      state = s;
      refusal = refl;
      len = w.len ∙ ap (λ (x : List FrameValue). length (sent_all x)) fs;
      reply = w.bytes ∙ ap (λ (x : List FrameValue). overlay (sent_all x) l.buffer) fs;
      medium = m;
    })

-- ---- what is sent of the medium, and what stays of it

-- a host frame sends nothing of the medium
ruled_unsent : (v : Facts) (m : List ℕ) {f : List ℕ} {a : Act} → by.Ruled v (host_frame f) (Ok a) → [] ≡ part_of a m
ruled_unsent v m (by.host f a g w s h) = by.heard_unsent v m h
ruled_unsent v m {f = f} {a = a} (by.own x) = elim x [ ]

pub host_unsent : (d : Device) (f m b : List ℕ) (a : Act) → Ok a ≡ act_of d (lent (host_frame f) m b) → [] ≡ part_of a m
host_unsent d f m b a e = ruled_unsent (facts_of d (lent (host_frame f) m b)) m (act_ruled d (lent (host_frame f) m b) a e)

-- a device event leaves the medium
ruled_left : (v : Facts) (m : List ℕ) {e : DeviceEvent} {a : Act} → by.Ruled v (happens e) (Ok a) → m ≡ medium_after a (frame_in (happens e)) m
unfolding touch_of
ruled_left v m (by.own (by.opened t g s o l w)) = refl
ruled_left v m (by.own _) = refl

pub event_left : (d : Device) (e : DeviceEvent) (m b : List ℕ) (a : Act) → Ok a ≡ act_of d (lent (happens e) m b) → m ≡ medium_after a (frame_in (happens e)) m
event_left d e m b a q = ruled_left (facts_of d (lent (happens e) m b)) m (act_ruled d (lent (happens e) m b) a q)

-- ---- what a call comes to reads no more than it is handed

-- an empty set has no unready tag
pub none_unready : (d : Device) → some_unready d.entries d.status.outstanding 0 ≡ false
unfolding some_unready
none_unready d = some_never (unready_at d.entries d.status.outstanding 0) 32 (λ t l. rw (no_bit t))

-- nor does a host frame name a set
pub host_act : (d : Device) (f m b : List ℕ) (v : Facts) (g : Result Frame Refusal) (x : Result Act Refusal)
    → v ≡ facts_with d d.status.phase (medium_wrong d.settings.capacity (length m)) false (length b) → g ≡ read_frame f → x ≡ heard_act v g → x ≡ act_of d (lent (host_frame f) m b)
unfolding act_of act tests does
host_act d f m b v g x r s e = e ∙ rw (r, s, none_unready d)

-- ---- both, done

pub given_heard : (d : Device) (f m b : List ℕ) (a : Act) (m' b' : List ℕ) (d' : Device) (n : ℕ) → Ok a ≡ act_of d (lent (host_frame f) m b)
    → m' ≡ medium_after a f m → d' ≡ after_of d a → Replied d [] a b n b' → Given d (lent (host_frame f) m b) (gave (answered d' (Ok n)) m' b')
given_heard d f m b a m' b' d' n e k s w = given_by d (lent (host_frame f) m b) a [] m' b' d' n e (host_unsent d f m b a e) k s w

pub given_happened : (d : Device) (e : DeviceEvent) (m b : List ℕ) (a : Act) (part b' : List ℕ) (d' : Device) (n : ℕ) → Ok a ≡ act_of d (lent (happens e) m b)
    → part ≡ part_of a m → d' ≡ after_of d a → Replied d part a b n b' → Given d (lent (happens e) m b) (gave (answered d' (Ok n)) m b')
given_happened d e m b a part b' d' n q p s w = given_by d (lent (happens e) m b) a part m b' d' n q p (event_left d e m b a q) s w
