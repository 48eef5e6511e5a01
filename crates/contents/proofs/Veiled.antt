-- What is decided does not see contents: of a call and the same with its contents blanked.
use Rattle.std.proofs.Common.{Option, Some, None, Result, Ok, Err, ◌≡◌, true, false, true≢false, refl, sym, ap, ap₂, ◌∙◌, List, [], ◌∷◌, map, ℕ, ◌-◌, min, length, drop, length-take, length-drop}
use Rattle.std.proofs.lemmas.List.{length-replicate}
use Rattle.frames.specs.Write.{FrameValue, payload}
use Rattle.frames.specs.RoundTrip.{read_back}
use Rattle.frames.specs.declared.shapes.Frame.TheVariants.{Data}
use Rattle.refusals.specs.declared.reasons.Refusal.{Refusal}
use Rattle.rules.specs.Call.{Call, host_frame, happens}
use Rattle.rules.specs.Tests.{tests}
use Rattle.rules.specs.Act.{act, does, heard_act}
use Rattle.rules.specs.Medium.{Touch, leaves, sends, stores, touch_of, sent_by, part_of}
use Rattle.rules.specs.declared.facts.Facts.{Facts}
use Rattle.rules.proofs.Ruled as by
use Rattle.rules.specs.declared.acts.Act.{Act}
use Rattle.rules.specs.declared.acts.Act.TheVariants.{Nothing, Bad, BadAndHalt, Accept, Log10, Log11, Identify, Reset, Release, ZeroCounters, Store, Open, Send, Finish, Media, Count, Renew}
use Rattle.replies.specs.Replies.{replies_of}
use Rattle.replies.specs.StateShown.{StateShown}
use Rattle.device.specs.Lent.{Lent}
use Rattle.device.specs.FactsOf.{facts_with, tag_meant, medium_wrong, unready_in, facts_of}
use Rattle.device.specs.After.{after_of}
use Rattle.device.specs.Step.{state_shown, step_by, act_of, step}
use Rattle.device.specs.declared.state.Device.{Device}
use Rattle.contents.specs.Veil.{veiled_call, veil}
use Rattle.contents.specs.Told.{is_send}
use Rattle.contents.proofs.Blanked.{read_blanked}

-- ---- what a call comes to

-- a call by the lengths of what is lent to it
abbrev by_lengths : Device → Call → ℕ → ℕ → Result Act Refusal
by_lengths d c m b = act (facts_with d (tag_meant d.status.phase c) (medium_wrong d.settings.capacity m) (unready_in d c) b) c

-- what a call comes to is decided by it, and of what it is lent by lengths alone
by_its_lengths : (d : Device) (l : Lent) → act_of d l ≡ by_lengths d l.call (length l.medium) (length l.buffer)
unfolding act_of
by_its_lengths d l = refl

by_lengths_veiled : (d : Device) (c : Call) (m b : ℕ) → by_lengths d (veiled_call c) m b ≡ by_lengths d c m b
unfolding act tests does
by_lengths_veiled d (host_frame f) m b = ap (heard_act (facts_with d (tag_meant d.status.phase (host_frame f)) (medium_wrong d.settings.capacity m) (unready_in d (host_frame f)) b)) (read_blanked f)
by_lengths_veiled d (happens e) m b = refl

-- a call comes to the same, blanked
pub act_veiled : (d : Device) (l : Lent) → act_of d (veil l) ≡ act_of d l
act_veiled d l =
    let m : length (veil l).medium ≡ length l.medium = length-replicate {A = ℕ} (length l.medium) 0 in
    let b : length (veil l).buffer ≡ length l.buffer = length-replicate {A = ℕ} (length l.buffer) 0 in
    by_its_lengths d (veil l) ∙ ap₂ (by_lengths d (veiled_call l.call)) m b ∙ by_lengths_veiled d l.call (length l.medium) (length l.buffer) ∙ sym (by_its_lengths d l)

-- ---- state and refusal

-- the state that is left, by what a call comes to
abbrev state_by : Device → Result Act Refusal → Device
state_by d (Err r) = d
state_by d (Ok a) = after_of d a

state_stepped : (d : Device) (l : Lent) (x : Result Act Refusal) → (step_by d l x).state ≡ state_by d x
state_stepped d l (Err r) = refl
state_stepped d l (Ok a) = refl

pub state_veiled : (d : Device) (l : Lent) → (step d (veil l)).state ≡ (step d l).state
state_veiled d l =
    state_stepped d (veil l) (act_of d (veil l)) ∙ ap (state_by d) (act_veiled d l) ∙ sym (state_stepped d l (act_of d l))

-- the refusal
abbrev refusal_by : Result Act Refusal → Option Refusal
refusal_by (Err r) = Some r
refusal_by (Ok a) = None

refusal_stepped : (d : Device) (l : Lent) (x : Result Act Refusal) → (step_by d l x).refusal ≡ refusal_by x
refusal_stepped d l (Err r) = refl
refusal_stepped d l (Ok a) = refl

pub refusal_veiled : (d : Device) (l : Lent) → (step d (veil l)).refusal ≡ (step d l).refusal
refusal_veiled d l =
    refusal_stepped d (veil l) (act_of d (veil l)) ∙ ap refusal_by (act_veiled d l) ∙ sym (refusal_stepped d l (act_of d l))

-- ---- replies

-- what of a medium is sent, by what a call comes to
abbrev pub part_by : Result Act Refusal → List ℕ → List ℕ
part_by (Err r) m = []
part_by (Ok a) m = part_of a m

-- the replies, with such a part
abbrev pub frames_by : StateShown → List ℕ → Result Act Refusal → List FrameValue
frames_by s p (Err r) = []
frames_by s p (Ok a) = replies_of s p a

frames_stepped : (d : Device) (l : Lent) (x : Result Act Refusal) → (step_by d l x).frames ≡ frames_by (state_shown d) (part_by x l.medium) x
frames_stepped d l (Err r) = refl
frames_stepped d l (Ok a) = refl

-- the replies are those of what the call comes to, with what that sends of the medium
pub frames_are : (d : Device) (l : Lent) → (step d l).frames ≡ frames_by (state_shown d) (part_by (act_of d l) l.medium) (act_of d l)
frames_are d l = frames_stepped d l (act_of d l)

-- a blanked call's
pub frames_are_veiled : (d : Device) (l : Lent) → (step d (veil l)).frames ≡ frames_by (state_shown d) (part_by (act_of d l) (veil l).medium) (act_of d l)
frames_are_veiled d l =
    frames_are d (veil l) ∙ ap (λ (x : Result Act Refusal). frames_by (state_shown d) (part_by x (veil l).medium) x) (act_veiled d l)

-- a call but a send sends nothing of the medium
pub unsent : (v : Facts) (m : List ℕ) {c : Call} {x : Result Act Refusal} → by.Ruled v c x → is_send c ≡ false → part_by x m ≡ []
unfolding touch_of is_send
unsent v m (by.refused c r e) o = refl
unsent v m (by.host f a g w s h) o = sym (by.heard_unsent v m h)
unsent v m (by.own (by.sent g w s p r)) o = absurd (true≢false o)
unsent v m (by.own _) o = refl

-- the replies of every call but a send are the same frames
pub frames_veiled : (d : Device) (l : Lent) → is_send l.call ≡ false → (step d (veil l)).frames ≡ (step d l).frames
unfolding act_of
frames_veiled d l o =
    let x : Result Act Refusal = act_of d l in
    let none : (m : List ℕ) → part_by x m ≡ [] = λ m. unsent (facts_of d l) m (by.ruled (facts_of d l) l.call) o in
    frames_are_veiled d l ∙ ap (λ (p : List ℕ). frames_by (state_shown d) p x) (none (veil l).medium ∙ sym (none l.medium)) ∙ sym (frames_are d l)

-- a send replies nothing, or one data frame
send_by : (P : List FrameValue → Type 0) → P [] → ((p : List ℕ) → P (payload p ∷ [])) → (s : StateShown) (v : Facts) (p : List ℕ) {c : Call} {x : Result Act Refusal} → by.Ruled v c x → is_send c ≡ true → P (frames_by s p x)
unfolding is_send replies_of
send_by P none one s v p (by.refused c r e) o = none
send_by P none one s v p (by.host f a g w t h) o = absurd (true≢false (sym o))
send_by P none one s v p (by.own (by.sent g w t q r)) o = one p
send_by P none one s v p (by.own _) o = absurd (true≢false (sym o))

pub send_frames : (P : List FrameValue → Type 0) → P [] → ((p : List ℕ) → P (payload p ∷ [])) → (d : Device) (l : Lent) → is_send l.call ≡ true → P (step d l).frames
unfolding act_of
send_frames P none one d l o =
    rw (frames_are d l) (send_by P none one (state_shown d) (facts_of d l) (part_by (act_of d l) l.medium) (by.ruled (facts_of d l) l.call) o)

-- a part of the medium is as long whatever stands there
sent_long : (t : Touch) (m n : List ℕ) → length m ≡ length n → length (sent_by t m) ≡ length (sent_by t n)
sent_long leaves m n e = refl
sent_long (sends k) m n e =
    length-take k.size (drop k.at m) ∙ ap (min k.size) (length-drop k.at m ∙ ap (λ (i : ℕ). i - k.at) e ∙ sym (length-drop k.at n)) ∙ sym (length-take k.size (drop k.at n))
sent_long (stores k) m n e = refl

pub part_long : (x : Result Act Refusal) (m n : List ℕ) → length m ≡ length n → length (part_by x m) ≡ length (part_by x n)
part_long (Err r) m n e = refl
part_long (Ok a) m n e = sent_long (touch_of a) m n e

-- of every act the replies are the same whatever part is sent, but for the one data frame of a send
pub by_part : (R : List FrameValue → List FrameValue → Type 0) (s : StateShown) (p q : List ℕ) → ((fs : List FrameValue) → R fs fs) → R (payload p ∷ []) (payload q ∷ []) → (a : Act) → R (replies_of s p a) (replies_of s q a)
unfolding replies_of
by_part R s p q same sent (Send k) = sent
by_part R s p q same sent Nothing = same _
by_part R s p q same sent (Bad b) = same _
by_part R s p q same sent (BadAndHalt f) = same _
by_part R s p q same sent (Accept k) = same _
by_part R s p q same sent (Log10 t) = same _
by_part R s p q same sent (Log11 l) = same _
by_part R s p q same sent (Identify t) = same _
by_part R s p q same sent Reset = same _
by_part R s p q same sent Release = same _
by_part R s p q same sent ZeroCounters = same _
by_part R s p q same sent (Store m) = same _
by_part R s p q same sent (Open k) = same _
by_part R s p q same sent (Finish set) = same _
by_part R s p q same sent (Media f) = same _
by_part R s p q same sent (Count r) = same _
by_part R s p q same sent Renew = same _

-- the same of what a call comes to
by_sent : (R : List FrameValue → List FrameValue → Type 0) (s : StateShown) (p q : List ℕ) → ((fs : List FrameValue) → R fs fs) → R (payload p ∷ []) (payload q ∷ []) → (x : Result Act Refusal) → R (frames_by s p x) (frames_by s q x)
by_sent R s p q same sent (Err r) = same []
by_sent R s p q same sent (Ok a) = by_part R s p q same sent a

-- so what holds of any replies and themselves, and of data frames as long, holds of the replies of a blanked call and of the call
pub frames_alike : (R : List FrameValue → List FrameValue → Type 0) → ((fs : List FrameValue) → R fs fs) → ((p q : List ℕ) → length p ≡ length q → R (payload p ∷ []) (payload q ∷ []))
    → (d : Device) (l : Lent) → R (step d (veil l)).frames (step d l).frames
frames_alike R same sent d l =
    let x : Result Act Refusal = act_of d l in
    let p : List ℕ = part_by x (veil l).medium in
    let q : List ℕ = part_by x l.medium in
    let e : length p ≡ length q = part_long x (veil l).medium l.medium (length-replicate {A = ℕ} (length l.medium) 0) in
    rw (frames_are_veiled d l, frames_are d l) (by_sent R (state_shown d) p q same (sent p q e) x)

-- the same frames in number, kind and length, and in all that the reader sees of them
pub frames_seen : (d : Device) (l : Lent) → map read_back (step d (veil l)).frames ≡ map read_back (step d l).frames
frames_seen = frames_alike (λ x y. map read_back x ≡ map read_back y) (λ fs. refl) (λ p q e. ap (λ (n : ℕ). Data n ∷ []) e)
