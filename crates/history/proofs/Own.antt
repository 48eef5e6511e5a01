-- All that is proved of a device event that is taken: one row an event.
use Rattle.std.proofs.Common.{Some, ◌≡◌, refl, Bool, true, false, List, [], ◌∷◌, inl, inr, ℕ, get_or}
use mathlib.Core.Bool.{false≢true}
use Rattle.bits.specs.Bit.{bit_in}
use Rattle.frames.specs.Write.{FrameValue}
use Rattle.counters.specs.Counts.{single}
use Rattle.device_state.specs.Table.{entry_of}
use Rattle.rules.specs.Call.{Call, happens}
use Rattle.rules.specs.declared.event.DeviceEvent.TheVariants.{OpenPhase}
use Rattle.rules.specs.Positions.{place_of, move_of}
use Rattle.rules.specs.Act.{failing}
use Rattle.rules.specs.Medium.{touch_of, part_of, medium_after}
use Rattle.rules.specs.declared.acts.Queued.{Queued}
use Rattle.rules.specs.declared.acts.Act.{Act}
use Rattle.rules.proofs.Ruled as by
use Rattle.replies.specs.Replies.{replies_of, setup_reply, activate_if}
use Rattle.device.specs.Lent.{lent, frame_in, Typed}
use Rattle.device.specs.FactsOf.{facts_of}
use Rattle.device.specs.After.{after_of, opened_for, moved_by, finished_by, failed_by, halt_with, renewed_device, reset_held, released_device}
use Rattle.device.specs.DataDue.{phase_entry}
use Rattle.device.specs.Step.{state_shown}
use Rattle.device.specs.declared.state.Device.{Device}
use Rattle.history.specs.Replied.{some, collect}
use Rattle.history.specs.Shapes.{OneOf}
use Rattle.history.specs.Reading.{one_of, call_asks, call_brings, call_says, call_replies}
use Rattle.history.proofs.Views.{sent_in, view, is_finish, is_failed}
use Rattle.history.proofs.Changes.{busy_calm}
use Rattle.history.proofs.Hosts.{Comes}
use Rattle.history.proofs.Events.{opened_comes, send_comes, finished_comes, failed_comes, counted_comes, renewed_comes}
use Rattle.history.proofs.Placed.{SentFrom, DataStands, sent_none, payload_sent, setup_none, nowhere_lies}
use Rattle.history.proofs.Marked.{Marked, counted_marked}
use Rattle.history.proofs.Impact.{Reckons, unchanged, counted_values, one_is, renewed_values, failed_values}
use Rattle.history.proofs.Hearing.{pio_in}
use Rattle.history.proofs.Shaped.{kinds_of, erring, sends_faulty, CallShaped, unblamed}
use Rattle.history.proofs.Speechless.{SpokenBy, Utters, none_finished_lem, event_utters}
use Rattle.device.proofs.Phases.{none_open}

-- the replies rs of an event: no page, of a shape that they may have, and they say no more than they may
pub record OwnReplies (c : Call) (rs : List FrameValue) : Type 0 where
  pub pageless : pio_in rs ≡ false
  pub shaped : CallShaped c rs
  pub utters : Utters c rs

-- an event with its act: it brings nothing and leaves the medium; what of it is sent stands at the next byte of the open phase's command; its replies; what it counts; a halt keeps its record; the kind to which it comes
pub record OwnGoes (d : Device) (m : List ℕ) (c : Call) (a : Act) : Type 0 where
  pub lies : DataStands (place_of (phase_entry d)) m (medium_after a (frame_in c) m) (call_brings c)
  pub sends : SentFrom (place_of (phase_entry d)) m (sent_in (replies_of (state_shown d) (part_of a m) a))
  pub replies : OwnReplies c (replies_of (state_shown d) (part_of a m) a)
  pub reckons : Reckons d c (pio_in (replies_of (state_shown d) (part_of a m) a)) a
  pub marked : Marked d → Marked (after_of d a)
  pub comes : Typed c → Comes d (part_of a m) (call_asks c) a

-- ---- replies

-- what is no command: replies of a shape that they may have, without a 34h with ERR, a 5Fh with ERR and a page, that say what they may
own_replies : (c : Call) (rs : List FrameValue) → (call_asks c).command ≡ false → OneOf (kinds_of rs) (call_replies c) → erring rs ≡ false → sends_faulty rs ≡ false → pio_in rs ≡ false
    → SpokenBy (call_says c) (view (call_asks c) rs) → OwnReplies c rs
own_replies c rs k o e f p s = record { pageless = p; shaped = unblamed rs k o e f; utters = event_utters c rs k p s }

-- DMA Setup, and for a write an Activate
setup_replies : (tag : ℕ) (q : Queued) (on : Bool) → OwnReplies (happens (OpenPhase tag)) (setup_reply q ∷ activate_if on)
unfolding some collect
setup_replies tag q true = own_replies _ _ refl (inr (inl refl)) refl refl refl (none_finished_lem _ _ refl)
setup_replies tag q false = own_replies _ _ refl (inl refl) refl refl refl (none_finished_lem _ _ refl)

-- ---- each event

-- by the rule that holds
pub own_goes : (d : Device) (m b : List ℕ) {c : Call} {a : Act} → by.Own (facts_of d (lent c m b)) c a → OwnGoes d m c a
unfolding touch_of move_of replies_of some collect after_of opened_for moved_by finished_by failed_by halt_with renewed_device reset_held released_device
own_goes d m b (by.opened t g s o p e) = record {
  lies = nowhere_lies _ m;
  sends = sent_none (place_of (phase_entry d)) m _ (setup_none (record { tag = t; entry = entry_of d.entries t }) (entry_of d.entries t).write);
  replies = setup_replies t (record { tag = t; entry = entry_of d.entries t }) (entry_of d.entries t).write;
  reckons = unchanged d.values;
  marked = λ k. k;
  comes = λ _. opened_comes d [] t g o (none_open d.status.phase p) e;
}
own_goes d m b (by.sent g w s p r) = record {
  lies = nowhere_lies _ m;
  sends = payload_sent (place_of (phase_entry d)) (move_of d.status (phase_entry d) 8192).size m;
  replies = own_replies _ _ refl (inl refl) refl refl refl (none_finished_lem _ _ refl);
  reckons = unchanged d.values;
  marked = λ k. k;
  comes = λ _. send_comes d m g w p r;
}
own_goes d m b (by.finished set g s p e r) = record {
  lies = nowhere_lies _ m;
  sends = refl;
  replies = own_replies _ _ refl (inl refl) refl refl refl ((is_finish _ refl).fails, (is_finish _ refl).finishes);
  reckons = unchanged d.values;
  marked = λ k. k;
  comes = λ l. finished_comes d [] set g l.1 (none_open d.status.phase p) e r;
}
own_goes d m b (by.failed t e x g s o y w) = record {
  lies = nowhere_lies _ m;
  sends = refl;
  replies = own_replies _ _ refl (inl refl) refl refl refl ((is_failed _ refl refl).fails, (is_failed _ refl refl).finishes);
  reckons = failed_values d (bit_in 8 e 7);
  marked = λ _ _. refl;
  comes = λ _. failed_comes d [] (record { tag = Some t; error = e; echo = failing (entry_of d.entries t).echo x }) (busy_calm d g t o);
}
own_goes d m b (by.linked r g x) = record {
  lies = nowhere_lies _ m;
  sends = refl;
  replies = own_replies _ [] refl (inl refl) refl refl refl (none_finished_lem _ _ refl);
  reckons = counted_values d (single r) (one_of r) (one_is r);
  marked = counted_marked d (single r);
  comes = λ _. counted_comes d [] (single r);
}
own_goes d m b (by.tallied ns g x) = record {
  lies = nowhere_lies _ m;
  sends = refl;
  replies = own_replies _ [] refl (inl refl) refl refl refl (none_finished_lem _ _ refl);
  reckons = counted_values d ns (λ k. get_or ns k 0) (λ r u. refl);
  marked = counted_marked d ns;
  comes = λ _. counted_comes d [] ns;
}
own_goes d m b (by.renewed g s) = record {
  lies = nowhere_lies _ m;
  sends = refl;
  replies = own_replies _ _ refl (inl refl) refl refl refl (none_finished_lem _ _ refl);
  reckons = renewed_values d;
  marked = λ _. counted_marked (released_device (reset_held d)) (single 9) (λ h. absurd (false≢true h));
  comes = λ _. renewed_comes d [];
}
