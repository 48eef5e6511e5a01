-- The same of the calls of a device that is kept.
use Rattle.std.proofs.Common.{[], ◌≡◌, refl}
use Rattle.device.specs.Lent.{answered}
use Rattle.device.specs.Sealing.{state_of}
use Rattle.device.proofs.Outcomes.{given_once}
use Rattle.device.proofs.Kept.{kept_once, sealed_once, same_answer, same_state, powered_once}
use Rattle.bits.specs.Contract.{Sole, Says}
use Rattle.bits.proofs.Tying.{same, sole, say}
use Rattle.device.proofs.sealed
use Rattle.device.specs.contracts.sealed as sealed-said

pub tied_host_frame : Sole sealed-said.Sealed.host_frame.ended sealed.Sealed.host_frame.Reads.Asked sealed.Sealed.host_frame.Reads.Post
tied_host_frame = sole (λ κs a. tt) (λ κs a r r' ws ws' p q. let e = given_once _ _ (answered ws.0.device r) (answered ws'.0.device r') ws.1.1.0 ws'.1.1.0 ws.1.1.1.0 ws'.1.1.1.0 p q in (same_answer _ _ r r' e.0, λ i. (kept_once ws.0 ws'.0 (same_state _ _ r r' e.0) i, (tt, (e.1.0 i, (e.1.1 i, tt))))))

pub tied_event : Sole sealed-said.Sealed.event.ended sealed.Sealed.event.Reads.Asked sealed.Sealed.event.Reads.Post
tied_event = sole (λ κs a. tt) (λ κs a r r' ws ws' p q. let e = given_once _ _ (answered ws.0.device r) (answered ws'.0.device r') a.1.1.0.now a.1.1.0.now ws.1.1.1.0 ws'.1.1.1.0 p q in (same_answer _ _ r r' e.0, λ i. (kept_once ws.0 ws'.0 (same_state _ _ r r' e.0) i, (tt, (tt, (e.1.1 i, tt))))))

pub tied_open : Sole sealed-said.Sealed.open.ended sealed.Sealed.open.Reads.Asked sealed.Sealed.open.Reads.Post
tied_open = sole (λ κs a. tt) (λ κs a r r' ws ws' p q. let e = given_once _ _ (answered ws.0.device r) (answered ws'.0.device r') [] [] ws.1.1.0 ws'.1.1.0 p q in (same_answer _ _ r r' e.0, λ i. (kept_once ws.0 ws'.0 (same_state _ _ r r' e.0) i, (tt, (e.1.1 i, tt)))))

pub tied_send : Sole sealed-said.Sealed.send.ended sealed.Sealed.send.Reads.Asked sealed.Sealed.send.Reads.Post
tied_send = sole (λ κs a. tt) (λ κs a r r' ws ws' p q. let e = given_once _ _ (answered ws.0.device r) (answered ws'.0.device r') a.1.0.now a.1.0.now ws.1.1.0 ws'.1.1.0 p q in (same_answer _ _ r r' e.0, λ i. (kept_once ws.0 ws'.0 (same_state _ _ r r' e.0) i, (tt, (e.1.1 i, tt)))))

pub tied_finish : Sole sealed-said.Sealed.finish.ended sealed.Sealed.finish.Reads.Asked sealed.Sealed.finish.Reads.Post
tied_finish = sole (λ κs a. tt) (λ κs a r r' ws ws' p q. let e = given_once _ _ (answered ws.0.device r) (answered ws'.0.device r') [] [] ws.1.1.0 ws'.1.1.0 p q in (same_answer _ _ r r' e.0, λ i. (kept_once ws.0 ws'.0 (same_state _ _ r r' e.0) i, (tt, (e.1.1 i, tt)))))

pub tied_media_error : Sole sealed-said.Sealed.media_error.ended sealed.Sealed.media_error.Reads.Asked sealed.Sealed.media_error.Reads.Post
tied_media_error = sole (λ κs a. tt) (λ κs a r r' ws ws' p q. let e = given_once _ _ (answered ws.0.device r) (answered ws'.0.device r') [] [] ws.1.1.1.1.0 ws'.1.1.1.1.0 p q in (same_answer _ _ r r' e.0, λ i. (kept_once ws.0 ws'.0 (same_state _ _ r r' e.0) i, (tt, (tt, (tt, (e.1.1 i, tt)))))))

pub tied_link_event : Sole sealed-said.Sealed.link_event.ended sealed.Sealed.link_event.Reads.Asked sealed.Sealed.link_event.Reads.Post
tied_link_event = sole (λ κs a. tt) (λ κs a r r' ws ws' p q. let e = given_once _ _ (answered ws.0.device r) (answered ws'.0.device r') [] [] [] [] p q in (same_answer _ _ r r' e.0, λ i. (kept_once ws.0 ws'.0 (same_state _ _ r r' e.0) i, (tt, tt))))

pub tied_link_tally : Sole sealed-said.Sealed.link_tally.ended sealed.Sealed.link_tally.Reads.Asked sealed.Sealed.link_tally.Reads.Post
tied_link_tally = sole (λ κs a. tt) (λ κs a r r' ws ws' p q. let e = given_once _ _ (answered ws.0.device r) (answered ws'.0.device r') [] [] [] [] p q in (same_answer _ _ r r' e.0, λ i. (kept_once ws.0 ws'.0 (same_state _ _ r r' e.0) i, (tt, tt))))

pub tied_comreset : Sole sealed-said.Sealed.comreset.ended sealed.Sealed.comreset.Reads.Asked sealed.Sealed.comreset.Reads.Post
tied_comreset = sole (λ κs a. tt) (λ κs a r r' ws ws' p q. let e = given_once _ _ (answered ws.0.device r) (answered ws'.0.device r') [] [] ws.1.0 ws'.1.0 p q in (same_answer _ _ r r' e.0, λ i. (kept_once ws.0 ws'.0 (same_state _ _ r r' e.0) i, (e.1.1 i, tt))))

pub tied_power_on : Sole sealed-said.Sealed.power_on.ended sealed.Sealed.power_on.Reads.Asked sealed.Sealed.power_on.Reads.Post
tied_power_on = sole (λ κs a. tt) (λ κs a r r' ws ws' p q. (powered_once r r' (same p q), refl))

pub tied_try_from : Sole sealed-said.SealedTryFromDevice.try_from.ended sealed.SealedTryFromDevice.try_from.Reads.Asked sealed.SealedTryFromDevice.try_from.Reads.Post
tied_try_from = sole (λ κs a. tt) (λ κs a r r' ws ws' p q. (sealed_once a.0 r r' p q, refl))

pub tied_from : Sole sealed-said.DeviceFromSealed.from.ended sealed.DeviceFromSealed.from.Reads.Asked sealed.DeviceFromSealed.from.Reads.Post
tied_from = sole (λ κs a. tt) (λ κs a r r' ws ws' p q. (same p q, refl))

-- its state is lent as it stands
pub tied_state : Says sealed-said.Sealed.state.ended sealed.Sealed.state.Reads.Asked sealed.Sealed.state.Reads.Post (λ κs a r ws. r.now ≡ state_of a.0.now)
tied_state = say (λ κs a. tt) (λ κs a r ws p. p)
