-- Each public function's own contract: it asks nothing, and two answers which it allows are equal.
use Rattle.std.proofs.Common.{[], refl}
use Rattle.device.proofs.Outcomes.{given_once}
use Rattle.bits.specs.Contract.{Sole}
use Rattle.bits.proofs.Tying.{same, sole}
use Rattle.device.proofs.state
use Rattle.device.specs.contracts.state as state-said

pub tied_after : Sole state-said.Device.after.ended state.Device.after.Reads.Asked state.Device.after.Reads.Post
tied_after = sole (λ κs a. tt) (λ κs a r r' ws ws' p q. (refl, λ i. (same p q i, (tt, tt))))

pub tied_host_frame : Sole state-said.Device.host_frame.ended state.Device.host_frame.Reads.Asked state.Device.host_frame.Reads.Post
tied_host_frame = sole (λ κs a. tt) (λ κs a r r' ws ws' p q. let e = given_once _ _ r r' ws.1.1.0 ws'.1.1.0 ws.1.1.1.0 ws'.1.1.1.0 p q in (e.0, λ i. (tt, (tt, (e.1.0 i, (e.1.1 i, tt))))))

pub tied_open : Sole state-said.Device.open.ended state.Device.open.Reads.Asked state.Device.open.Reads.Post
tied_open = sole (λ κs a. tt) (λ κs a r r' ws ws' p q. let e = given_once _ _ r r' [] [] ws.1.1.0 ws'.1.1.0 p q in (e.0, λ i. (tt, (tt, (e.1.1 i, tt)))))

pub tied_send : Sole state-said.Device.send.ended state.Device.send.Reads.Asked state.Device.send.Reads.Post
tied_send = sole (λ κs a. tt) (λ κs a r r' ws ws' p q. let e = given_once _ _ r r' a.1.0.now a.1.0.now ws.1.1.0 ws'.1.1.0 p q in (e.0, λ i. (tt, (tt, (e.1.1 i, tt)))))

pub tied_finish : Sole state-said.Device.finish.ended state.Device.finish.Reads.Asked state.Device.finish.Reads.Post
tied_finish = sole (λ κs a. tt) (λ κs a r r' ws ws' p q. let e = given_once _ _ r r' [] [] ws.1.1.0 ws'.1.1.0 p q in (e.0, λ i. (tt, (tt, (e.1.1 i, tt)))))

pub tied_media_error : Sole state-said.Device.media_error.ended state.Device.media_error.Reads.Asked state.Device.media_error.Reads.Post
tied_media_error = sole (λ κs a. tt) (λ κs a r r' ws ws' p q. let e = given_once _ _ r r' [] [] ws.1.1.1.1.0 ws'.1.1.1.1.0 p q in (e.0, λ i. (tt, (tt, (tt, (tt, (e.1.1 i, tt)))))))

pub tied_link_event : Sole state-said.Device.link_event.ended state.Device.link_event.Reads.Asked state.Device.link_event.Reads.Post
tied_link_event = sole (λ κs a. tt) (λ κs a r r' ws ws' p q. let e = given_once _ _ r r' [] [] [] [] p q in (e.0, λ i. (tt, (tt, tt))))

pub tied_link_tally : Sole state-said.Device.link_tally.ended state.Device.link_tally.Reads.Asked state.Device.link_tally.Reads.Post
tied_link_tally = sole (λ κs a. tt) (λ κs a r r' ws ws' p q. let e = given_once _ _ r r' [] [] [] [] p q in (e.0, λ i. (tt, (tt, tt))))

pub tied_comreset : Sole state-said.Device.comreset.ended state.Device.comreset.Reads.Asked state.Device.comreset.Reads.Post
tied_comreset = sole (λ κs a. tt) (λ κs a r r' ws ws' p q. let e = given_once _ _ r r' [] [] ws.1.0 ws'.1.0 p q in (e.0, λ i. (tt, (e.1.1 i, tt))))

pub tied_data_due : Sole state-said.Device.data_due.ended state.Device.data_due.Reads.Asked state.Device.data_due.Reads.Post
tied_data_due = sole (λ κs a. tt) (λ κs a r r' ws ws' p q. (same p q, refl))

pub tied_counter : Sole state-said.Device.counter.ended state.Device.counter.Reads.Asked state.Device.counter.Reads.Post
tied_counter = sole (λ κs a. tt) (λ κs a r r' ws ws' p q. (same p.answer q.answer, refl))

pub tied_outstanding_count : Sole state-said.Device.outstanding_count.ended state.Device.outstanding_count.Reads.Asked state.Device.outstanding_count.Reads.Post
tied_outstanding_count = sole (λ κs a. tt) (λ κs a r r' ws ws' p q. (same p.answer q.answer, refl))

pub tied_power_on : Sole state-said.Device.power_on.ended state.Device.power_on.Reads.Asked state.Device.power_on.Reads.Post
tied_power_on = sole (λ κs a. tt) (λ κs a r r' ws ws' p q. (same p q, refl))

pub tied_with : Sole state-said.Device.with.ended state.Device.with.Reads.Asked state.Device.with.Reads.Post
tied_with = sole (λ κs a. tt) (λ κs a r r' ws ws' p q. (same p q, refl))

pub tied_contradicts : Sole state-said.Device.contradicts.ended state.Device.contradicts.Reads.Asked state.Device.contradicts.Reads.Post
tied_contradicts = sole (λ κs a. tt) (λ κs a r r' ws ws' p q. (same p q, refl))
