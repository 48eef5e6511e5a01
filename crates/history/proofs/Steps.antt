-- Every call, taken or refused, comes to one of the eleven kinds, seen from its call and its reply bytes; and a halt keeps its record.
use Rattle.std.proofs.Common.{None, Ok, is_none, ◌≡◌, refl, sym, ap, subst, ◌∙◌, true, false, List, [], ⊎_elim, ℕ}
use Rattle.bits.proofs.Picks.{tested}
use Rattle.rules.specs.Call.{Call}
use Rattle.rules.specs.Medium.{part_of}
use Rattle.rules.specs.declared.acts.Act.{Act}
use Rattle.rules.proofs.Ruled as by
use Rattle.device.specs.Lent.{Lent, lent, Typed}
use Rattle.device.specs.After.{after_of}
use Rattle.device.specs.FactsOf.{facts_of}
use Rattle.device.specs.Step.{Step, step}
use Rattle.device.specs.declared.state.Device.{Device}
use Rattle.device.proofs.Sized.{SizedRecord}
use Rattle.device.proofs.Refusals.{refused_keeps}
use Rattle.history.specs.Event.{Event}
use Rattle.history.specs.FrameAsks.{quiet}
use Rattle.history.specs.Reading.{call_asks}
use Rattle.history.specs.Seen.{Seen, seen}
use Rattle.history.specs.Run.{result, done, event}
use Rattle.history.proofs.Sets.{is_none_true, is_none_false}
use Rattle.history.proofs.Decided.{by_decided, by_taken}
use Rattle.history.proofs.Class.{Class, plain}
use Rattle.history.proofs.Views.{view, is_silent, silent_unbegun}
use Rattle.history.proofs.Frames.{Read, read_seen, read_step}
use Rattle.history.proofs.Changes.{same}
use Rattle.history.proofs.Marked.{Marked}
use Rattle.history.proofs.Hosts.{Comes}
use Rattle.history.proofs.Hosted.{host_goes}
use Rattle.history.proofs.Own.{own_goes}

module _ (d : Device) (l : Lent) (t : Typed l.call) (s : SizedRecord d) where
  abbrev x : Event
  x = event (done l (result d l))

  -- what holds of what is seen of a call, by whether it is refused
  pub by_view : (P : Seen → Type 0) → ((step d l).refusal ≡ None → P (view (call_asks l.call) (step d l).frames)) → (((step d l).refusal ≡ None → ⊥) → P (view quiet [])) → P (seen x)
  by_view P go keep =
      let r : Read x (step d l).frames = read_step d l t s in
      ⊎_elim
      (λ (y : is_none (step d l).refusal ≡ true).
      let z = is_none_true (step d l).refusal y in
      subst P (sym (read_seen x (step d l).frames r (call_asks l.call) (rw z))) (go z))
      (λ (y : is_none (step d l).refusal ≡ false).
      let n = is_none_false (step d l).refusal y in
      subst P (sym (read_seen x (step d l).frames r quiet (rw y) ∙ ap (view quiet) (refused_keeps d l n).frames)) (keep n))
      (tested (is_none (step d l).refusal))

-- a taken call, by the rule that holds
ruled_comes : (d : Device) (m b : List ℕ) {c : Call} {a : Act} → Typed c → by.Ruled (facts_of d (lent c m b)) c (Ok a) → Comes d (part_of a m) (call_asks c) a
ruled_comes d m b t (by.host f a g w s h) = (host_goes d f m b g h).comes
ruled_comes d m b t (by.own o) = (own_goes d m b o).comes t

-- every call
pub comes : (d : Device) (l : Lent) → Typed l.call → SizedRecord d → Class d (seen (event (done l (result d l)))) (step d l).state
comes d l t s =
    by_view d l t s (λ (e : Seen). Class d e (step d l).state)
    (by_taken d l (λ (x : Step). Class d (view (call_asks l.call) x.frames) x.state) (λ a r. ruled_comes d l.medium l.buffer t r))
    (λ n. subst (Class d (view quiet [])) (sym (refused_keeps d l n).state) (plain (is_silent quiet refl) (silent_unbegun quiet) (same d)))

-- a taken call, by the rule that holds: a halt keeps its record
ruled_marked : (d : Device) (m b : List ℕ) {c : Call} {a : Act} → by.Ruled (facts_of d (lent c m b)) c (Ok a) → Marked d → Marked (after_of d a)
ruled_marked d m b (by.host f a g w s h) k = (host_goes d f m b g h).marked k
ruled_marked d m b (by.own o) k = (own_goes d m b o).marked k

-- every call
pub marked_step : (d : Device) (l : Lent) → Marked d → Marked (step d l).state
marked_step d l k = by_decided d l (λ (x : Step). Marked x.state) (λ r. k) (λ a r. ruled_marked d l.medium l.buffer r k)
