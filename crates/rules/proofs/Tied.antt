-- Each public function's own contract: it asks nothing, and two answers which it allows are equal.
use Rattle.std.proofs.Common.{◌≡◌, refl}
use Rattle.rules.specs.Medium.{part_of}
use Rattle.bits.specs.Contract.{Says, Sole}
use Rattle.bits.proofs.Tying.{same, say, sole}
use Rattle.rules.proofs.acts
use Rattle.rules.specs.contracts.acts as acts-said
use Rattle.rules.proofs.device_events
use Rattle.rules.specs.contracts.device_events as device_events-said
use Rattle.rules.proofs.event
use Rattle.rules.specs.contracts.event as event-said
use Rattle.rules.proofs.facts
use Rattle.rules.specs.contracts.facts as facts-said

pub tied_frame_act : Sole facts-said.Facts.frame_act.ended facts.Facts.frame_act.Reads.Asked facts.Facts.frame_act.Reads.Post
tied_frame_act = sole (λ κs a. tt) (λ κs a r r' ws ws' p q. (same p q, refl))

pub tied_event_act : Sole facts-said.Facts.event_act.ended facts.Facts.event_act.Reads.Asked facts.Facts.event_act.Reads.Post
tied_event_act = sole (λ κs a. tt) (λ κs a r r' ws ws' p q. (same p q, refl))

pub tied_tag_meant : Sole event-said.DeviceEvent.tag_meant.ended event.DeviceEvent.tag_meant.Reads.Asked event.DeviceEvent.tag_meant.Reads.Post
tied_tag_meant = sole (λ κs a. tt) (λ κs a r r' ws ws' p q. (same p q, refl))

pub tied_some_unready : Sole device_events-said.some_unready.ended device_events.some_unready.Reads.Asked device_events.some_unready.Reads.Post
tied_some_unready = sole (λ κs a. tt) (λ κs a r r' ws ws' p q. (same p q, refl))

pub tied_next_move : Sole facts-said.next_move.ended facts.next_move.Reads.Asked facts.next_move.Reads.Post
tied_next_move = sole (λ κs a. tt) (λ κs a r r' ws ws' p q. (same p q, refl))

pub tied_record_of : Sole acts-said.ErrorRecordFromFault.from.ended acts.ErrorRecordFromFault.from.Reads.Asked acts.ErrorRecordFromFault.from.Reads.Post
tied_record_of = sole (λ κs a. tt) (λ κs a r r' ws ws' p q. (same p q, refl))

-- of two answers the bytes are equal, the references need not be
pub tied_part : Says acts-said.Act.part.ended acts.Act.part.Reads.Asked acts.Act.part.Reads.Post (λ κs a r ws. r.now ≡ part_of a.0 a.1.0.now)
tied_part = say (λ κs a. tt) (λ κs a r ws p. p)

pub tied_store : Sole acts-said.Act.store.ended acts.Act.store.Reads.Asked acts.Act.store.Reads.Post
tied_store = sole (λ κs a. tt) (λ κs a r r' ws ws' p q. (refl, λ i. (tt, (same p q i, (tt, tt)))))
