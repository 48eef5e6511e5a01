-- What a call leaves in the medium, host data at the place of the open phase, whole, and every other byte as it was; and what it sends of it.
use Rattle.std.proofs.Common.{None, Result, Ok, is_none, ◌≡◌, refl, sym, ap, subst, List, [], ℕ, ◌-◌, arith, length, get_or, drop, length-drop}
use Rattle.bits.specs.Pick.{pick}
use Rattle.bits.proofs.Picks.{by_test}
use Rattle.frames.proofs.ReadLaws.{DataRead, read_data}
use Rattle.refusals.specs.declared.reasons.Refusal.{Refusal}
use Rattle.rules.specs.Call.{Call, host_frame}
use Rattle.rules.specs.Positions.{place_of, move_of}
use Rattle.rules.specs.Medium.{part_of, medium_after}
use Rattle.rules.specs.declared.acts.Act.{Act}
use Rattle.rules.proofs.Ruled as by
use Rattle.replies.specs.Replies.{replies_of}
use Rattle.device.specs.Lent.{Lent, lent, frame_in}
use Rattle.device.specs.FactsOf.{facts_of}
use Rattle.device.specs.DataDue.{phase_entry}
use Rattle.device.specs.Step.{Step, state_shown, step_by, act_of, step}
use Rattle.device.specs.declared.state.Device.{Device}
use Rattle.device.proofs.Turns.{taken}
use Rattle.device.proofs.Refusals.{refused_keeps}
use Rattle.device.proofs.Rooms.{move_within}
use Rattle.device.proofs.Storing.{Taken46, taken_46, data_kept_whole}
use Rattle.history.specs.Replied.{FrameRead, some, data_in}
use Rattle.history.specs.Reading.{call_brings}
use Rattle.history.proofs.Sets.{is_none_true, is_none_false}
use Rattle.history.proofs.Decided.{by_decided}
use Rattle.history.proofs.Views.{sent_in}
use Rattle.history.proofs.Placed.{SentFrom, DataStands, sent_none, nowhere_lies}
use Rattle.history.proofs.Hosted.{OnMedium, untouched, host_data_frame, host_goes}
use Rattle.history.proofs.Own.{own_goes}

-- host data that was taken
data_lies : (d : Device) (f m b : List ℕ) → Taken46 d f m b → DataStands (place_of (phase_entry d)) m (step d (lent (host_frame f) m b)).medium (drop 4 f)
unfolding move_of
data_lies d f m b t =
    let size = (data_kept_whole d f m b t).0 in
    let ends = move_within d t.good t.phase (length f - 4) (length m) t.medium in
    let long = length-drop 4 f in
    record { left_at = (data_kept_whole d f m b t).1; ends_in = λ _. omega (arith, size, ends, long) }

-- a host frame that is not turned down, as it was read
frame_lies : (d : Device) (f m b : List ℕ) {r : FrameRead} {a : Act} → DataRead (get_or f 0 0) f r → act_of d (lent (host_frame f) m b) ≡ Ok a → OnMedium r a
    → DataStands (place_of (phase_entry d)) m (medium_after a f m) (data_in f r)
frame_lies d f m b k q (untouched r a t e) = rw (t, e f) (nowhere_lies _ m)
frame_lies d f m b k q (host_data_frame n a) =
    let l : Lent = lent (host_frame f) m b in
    subst (λ (x : Result Act Refusal). DataStands (place_of (phase_entry d)) m (step_by d l x).medium (drop 4 f)) q
    (data_lies d f m b (taken_46 d f m b k.0 (ap (λ (x : Result Act Refusal). (step_by d l x).refusal) q)))

-- a taken call, by the rule that holds
ruled_lies : (d : Device) (m b : List ℕ) {c : Call} {a : Act} → act_of d (lent c m b) ≡ Ok a → by.Ruled (facts_of d (lent c m b)) c (Ok a)
    → DataStands (place_of (phase_entry d)) m (medium_after a (frame_in c) m) (call_brings c)
ruled_lies d m b q (by.host f a g w s h) = frame_lies d f m b (read_data f) q (host_goes d f m b g h).medium
ruled_lies d m b q (by.own o) = (own_goes d m b o).lies

-- a taken call
taken_lies : (d : Device) (l : Lent) → (step d l).refusal ≡ None → DataStands (place_of (phase_entry d)) l.medium (step d l).medium (call_brings l.call)
taken_lies d l z =
    let t = taken d l z in
    subst (λ (x : Result Act Refusal). DataStands (place_of (phase_entry d)) l.medium (step_by d l x).medium (call_brings l.call)) (sym t.is) (ruled_lies d l.medium l.buffer t.is t.ruled)

-- every call: what it brought stands at the next byte of the open phase's command, and the medium is otherwise as it was
pub call_lies : (d : Device) (l : Lent) → DataStands (place_of (phase_entry d)) l.medium (step d l).medium (pick (is_none (step d l).refusal) (call_brings l.call) [])
call_lies d l =
    by_test (DataStands (place_of (phase_entry d)) l.medium (step d l).medium) (is_none (step d l).refusal) (call_brings l.call) []
    (λ t. taken_lies d l (is_none_true (step d l).refusal t))
    (λ n. subst (λ (x : List ℕ). DataStands (place_of (phase_entry d)) l.medium x []) (sym (refused_keeps d l (is_none_false (step d l).refusal n)).medium) (nowhere_lies _ l.medium))

-- ---- what it sends of the medium

-- a taken call, by the rule that holds: what it sends stood at the next byte of the open phase's command
ruled_sent : (d : Device) (m b : List ℕ) {c : Call} {a : Act} → by.Ruled (facts_of d (lent c m b)) c (Ok a) → SentFrom (place_of (phase_entry d)) m (sent_in (replies_of (state_shown d) (part_of a m) a))
ruled_sent d m b (by.host f a g w s h) = sent_none (place_of (phase_entry d)) m _ (host_goes d f m b g h).unsent
ruled_sent d m b (by.own o) = (own_goes d m b o).sends

-- every call
pub call_sent : (d : Device) (l : Lent) → SentFrom (place_of (phase_entry d)) l.medium (sent_in (step d l).frames)
unfolding some
call_sent d l =
    by_decided d l (λ (x : Step). SentFrom (place_of (phase_entry d)) l.medium (sent_in x.frames)) (λ r. sent_none (place_of (phase_entry d)) l.medium [] refl)
    (λ a r. ruled_sent d l.medium l.buffer r)
