-- Every call says no more than it may, and what it must: as an event of the history.
use Rattle.std.proofs.Common.{Ok, Err, ◌≡◌, refl, sym, ap, ap₂, ◌∙◌, Bool, true, false, ◌&&◌, true≢false, List, [], map, ℕ}
use mathlib.Core.Path.{subst⁻¹}
use mathlib.Core.Bool.{false≢true}
use Rattle.frames.specs.Cut.{joined_bytes}
use Rattle.frames.specs.Write.{FrameValue}
use Rattle.refusals.specs.declared.reasons.Refusal.{Refusal}
use Rattle.pages.specs.Page10.{read_log}
use Rattle.rules.specs.Call.{Call}
use Rattle.rules.specs.Medium.{part_of}
use Rattle.rules.specs.declared.acts.Act.{Act}
use Rattle.rules.proofs.Ruled as by
use Rattle.replies.specs.Replies.{replies_of, sent_all}
use Rattle.device.specs.Device.{contradictory_device}
use Rattle.device.specs.Lent.{Lent, lent, Typed}
use Rattle.device.specs.FactsOf.{facts_of}
use Rattle.device.specs.Step.{Step, state_shown, step_by, step}
use Rattle.device.specs.declared.state.Device.{Device}
use Rattle.device.proofs.Sized.{SizedRecord}
use Rattle.history.specs.Event.{Event}
use Rattle.history.specs.FrameAsks.{quiet}
use Rattle.history.specs.Reading.{Speech, none_finished, set_finished, error_told, call_asks, call_says, call_replies}
use Rattle.history.specs.Replied.{FrameRead, frames, some, is_pio, set_bits_in, collect, faulty_in, paged}
use Rattle.history.specs.Seen.{Seen, seen}
use Rattle.history.specs.Shapes.{kind_of, OneOf}
use Rattle.history.specs.ReplyRules.{TellsError, ReplyRules, Spoken}
use Rattle.history.proofs.Core.{Inv, inv_none}
use Rattle.history.proofs.Counts.{event_by, event_of}
use Rattle.history.proofs.Decided.{by_decided}
use Rattle.history.proofs.Views.{read_in, view, is_silent}
use Rattle.history.proofs.Frames.{Read, read_frames, read_page, read_seen, read_step}
use Rattle.history.proofs.Steps.{comes}
use Rattle.history.proofs.Hearing.{pio_in}
use Rattle.history.proofs.Said.{Telling}
use Rattle.history.proofs.Hosted.{host_goes}
use Rattle.history.proofs.Shaped.{erring_in, granting_in, CallShaped}
use Rattle.history.proofs.Marked.{Marked, halted_tells}
use Rattle.history.proofs.SeenRules.{SeenRules, seen_rules}
use Rattle.history.proofs.Speechless.{SpokenBy, Utters, host_utters}
use Rattle.history.proofs.Own.{own_goes}
use Rattle.history.proofs.Timely.{Timely, ruled_timely}

-- ---- the replies of a call that is taken

-- are of a shape that they may have
pub ruled_shaped : (d : Device) (m b : List ℕ) {c : Call} {a : Act} → by.Ruled (facts_of d (lent c m b)) c (Ok a) → CallShaped c (replies_of (state_shown d) (part_of a m) a)
ruled_shaped d m b (by.host f a g w s h) = (host_goes d f m b g h).shaped
ruled_shaped d m b (by.own o) = (own_goes d m b o).replies.shaped

-- say no more than they may, if page 10h tells an error while the device is halted
ruled_utters : (d : Device) (m b : List ℕ) → (contradictory_device d ≡ false → d.status.halted ≡ true → Telling (state_shown d)) → {c : Call} {a : Act} → by.Ruled (facts_of d (lent c m b)) c (Ok a)
    → Utters c (replies_of (state_shown d) (part_of a m) a)
ruled_utters d m b k (by.host f a g w s h) = host_utters f _ ((host_goes d f m b g h).said (k g))
ruled_utters d m b k (by.own o) = (own_goes d m b o).replies.utters

-- ---- as an event of the history

module _ (d : Device) (l : Lent) where
  -- what the outside sees of it, refused and done
  abbrev turned : Refusal → Event
  turned r = event_by l (step_by d l (Err r))

  abbrev heeded : Act → Event
  heeded a = event_by l (step_by d l (Ok a))

  -- the replies of an act
  abbrev sends : Act → List FrameValue
  sends a = replies_of (state_shown d) (part_of a l.medium) a

  -- what a refused call says: nothing
  turned_spoken : (r : Refusal) → Read (turned r) [] → (s : Speech) → Spoken (turned r) s
  turned_spoken r q none_finished = λ u. ap (λ (e : Seen). e.finishes u) (read_seen (turned r) [] q quiet refl) ∙ (is_silent quiet refl).finishes u
  turned_spoken r q (set_finished s) = λ y. absurd (false≢true y)
  turned_spoken r q error_told = (λ y. absurd (false≢true y), λ u. ap (λ (e : Seen). e.finishes u) (read_seen (turned r) [] q quiet refl) ∙ (is_silent quiet refl).finishes u)

  -- what a taken call says, by its replies
  heeded_spoken : (a : Act) → Read (heeded a) (sends a) → (s : Speech) → SpokenBy s (view (call_asks l.call) (sends a)) → Spoken (heeded a) s
  heeded_spoken a q s k = go s (subst⁻¹ (SpokenBy s) (read_seen (heeded a) (sends a) q (call_asks l.call) refl) k)
    where
      go : (s : Speech) → SpokenBy s (seen (heeded a)) → Spoken (heeded a) s
      go none_finished k = k
      go (set_finished s) k = λ _. k
      go error_told k = (λ _. k.0, k.1)

  -- a refused call
  turned_rules : (r : Refusal) (h : List Seen) → Read (turned r) [] → SeenRules (seen (turned r)) h → ReplyRules (turned r) h
  unfolding sent_all joined_bytes some collect seen
  turned_rules r h q p =
      let e : Event = turned r in
      let none : frames e ≡ [] = read_frames e [] q in
      record {
        silent = λ _. refl;
        shaped = λ y. absurd (false≢true y);
        blames = λ y. absurd (false≢true (sym (ap erring_in none) ∙ y));
        ungranted = λ _ _. ap granting_in none;
        faultless = ap faulty_in none;
        asked = λ y. absurd (false≢true (sym (ap (some is_pio) none) ∙ y));
        timely = λ y. absurd (false≢true (sym (ap (some is_pio) none) ∙ y));
        named = p.named;
        spoken = turned_spoken r q (call_says l.call);
        swept = λ y. absurd (false≢true y);
        behind = p.behind;
        answered = p.answered;
        alone = p.alone;
        shut = p.shut;
      }

  -- a taken one
  heeded_rules : (a : Act) (h : List Seen) → Read (heeded a) (sends a) → SeenRules (seen (heeded a)) h → CallShaped l.call (sends a) → Utters l.call (sends a)
      → Timely d (call_asks l.call) (sends a) → Inv d.status.outstanding d.status.halted h → ReplyRules (heeded a) h
  unfolding some collect seen
  heeded_rules a h q p shape utters timed i =
      let e : Event = heeded a in
      let seen_as : frames e ≡ read_in (sends a) = read_frames e (sends a) q in
      let pages : paged e ≡ pio_in (sends a) = ap (some is_pio) seen_as in
      record {
        silent = λ z. absurd (true≢false z);
        shaped = λ _. subst⁻¹ (λ (k : List ℕ). OneOf k (call_replies l.call)) (ap (map kind_of) seen_as) shape.shape;
        blames = λ y. shape.blames (sym (ap erring_in seen_as) ∙ y);
        ungranted = λ y n. ap granting_in seen_as ∙ shape.ungranted y n;
        faultless = ap faulty_in seen_as ∙ shape.faultless;
        asked = λ y. utters.paged (sym pages ∙ y);
        timely = λ y.
            let sent = sym pages ∙ y in
            (inv_none i (timed.idle sent), λ w. ap₂ ◌&&◌ (timed.alone sent (sym i.waiting ∙ w)) y);
        named = p.named;
        spoken = heeded_spoken a q (call_says l.call) utters.spoken;
        swept = λ y.
            let u = utters.swept (ap (λ (k : List FrameRead). (call_asks l.call).command && some (λ f. true) (collect set_bits_in k)) (sym seen_as) ∙ y) in
            record {
              waiting = (p.swept y).0;
              answers = ap (λ (b : Bool). (call_asks l.call).reads 0x10 && b) pages ∙ u.0;
              clean = (p.swept y).1;
              tells = subst⁻¹ (λ (k : List ℕ). TellsError (read_log k)) (read_page e (sends a) q) u.1;
            };
        behind = p.behind;
        answered = p.answered;
        alone = p.alone;
        shut = p.shut;
      }

  -- every call
  pub reply_rules : (h : List Seen) → Typed l.call → SizedRecord d → Marked d → Inv d.status.outstanding d.status.halted h → ReplyRules (event_of d l) h
  reply_rules h t sized marked i =
      by_decided d l (λ (s : Step). Read (event_by l s) s.frames → SeenRules (seen (event_by l s)) h → ReplyRules (event_by l s) h) (λ r. turned_rules r h)
      (λ a ruled q p. heeded_rules a h q p (ruled_shaped d l.medium l.buffer ruled) (ruled_utters d l.medium l.buffer (λ g. halted_tells d sized g marked) ruled)
      (ruled_timely d l.medium l.buffer ruled) i)
      (read_step d l t sized) (seen_rules d (step d l).state (seen (event_of d l)) h i (comes d l t sized))
