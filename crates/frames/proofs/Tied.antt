-- Each public function's own contract: it asks nothing, it says what stands here, of arguments too that no proved caller gives, and two answers which it allows are equal.
use Rattle.std.proofs.Common.{refl}
use Rattle.frames.specs.Read.{FrameGiven}
use Rattle.frames.specs.Write.{FrameWriteGiven}
use Rattle.frames.specs.Write.FrameValue.{activate, bist, device, host, payload, pio, set_bits, setup}
use Rattle.bits.specs.Contract.{Tied}
use Rattle.bits.proofs.Tying.{same, say, by}
use Rattle.frames.proofs.EmitLaws.{emitted_once}
use Rattle.frames.proofs.reading
use Rattle.frames.specs.contracts.reading as reading-said
use Rattle.frames.proofs.writing
use Rattle.frames.specs.contracts.writing as writing-said

pub tied_read_frame : Tied reading-said.read_frame.ended reading.read_frame.Reads.Asked reading.read_frame.Reads.Post (λ κs a r ws. FrameGiven a.0.now r)
tied_read_frame = by (say (λ κs a. tt) (λ κs a r ws p. p)) (λ κs a r r' ws ws' p q. (same p.answer q.answer, refl))

pub tied_write_host : Tied writing-said.write_host.ended writing.write_host.Reads.Asked writing.write_host.Reads.Post (λ κs a r ws. FrameWriteGiven (host a.1.0) a.0.now r ws.0)
tied_write_host = by (say (λ κs a. tt) (λ κs a r ws p. p)) (λ κs a r r' ws ws' p q. let e = emitted_once _ _ _ r r' ws.0 ws'.0 p q in (e.0, λ i. (e.1 i, (tt, tt))))

pub tied_write_device : Tied writing-said.write_device.ended writing.write_device.Reads.Asked writing.write_device.Reads.Post (λ κs a r ws. FrameWriteGiven (device a.1.0) a.0.now r ws.0)
tied_write_device = by (say (λ κs a. tt) (λ κs a r ws p. p)) (λ κs a r r' ws ws' p q. let e = emitted_once _ _ _ r r' ws.0 ws'.0 p q in (e.0, λ i. (e.1 i, (tt, tt))))

pub tied_write_pio : Tied writing-said.write_pio.ended writing.write_pio.Reads.Asked writing.write_pio.Reads.Post (λ κs a r ws. FrameWriteGiven (pio a.1.0) a.0.now r ws.0)
tied_write_pio = by (say (λ κs a. tt) (λ κs a r ws p. p)) (λ κs a r r' ws ws' p q. let e = emitted_once _ _ _ r r' ws.0 ws'.0 p q in (e.0, λ i. (e.1 i, (tt, tt))))

pub tied_write_bits : Tied writing-said.write_bits.ended writing.write_bits.Reads.Asked writing.write_bits.Reads.Post (λ κs a r ws. FrameWriteGiven (set_bits a.1.0) a.0.now r ws.0)
tied_write_bits = by (say (λ κs a. tt) (λ κs a r ws p. p)) (λ κs a r r' ws ws' p q. let e = emitted_once _ _ _ r r' ws.0 ws'.0 p q in (e.0, λ i. (e.1 i, (tt, tt))))

pub tied_write_setup : Tied writing-said.write_setup.ended writing.write_setup.Reads.Asked writing.write_setup.Reads.Post (λ κs a r ws. FrameWriteGiven (setup a.1.0) a.0.now r ws.0)
tied_write_setup = by (say (λ κs a. tt) (λ κs a r ws p. p)) (λ κs a r r' ws ws' p q. let e = emitted_once _ _ _ r r' ws.0 ws'.0 p q in (e.0, λ i. (e.1 i, (tt, tt))))

pub tied_write_activate : Tied writing-said.write_activate.ended writing.write_activate.Reads.Asked writing.write_activate.Reads.Post (λ κs a r ws. FrameWriteGiven activate a.0.now r ws.0)
tied_write_activate = by (say (λ κs a. tt) (λ κs a r ws p. p)) (λ κs a r r' ws ws' p q. let e = emitted_once _ _ _ r r' ws.0 ws'.0 p q in (e.0, λ i. (e.1 i, tt)))

pub tied_write_bist : Tied writing-said.write_bist.ended writing.write_bist.Reads.Asked writing.write_bist.Reads.Post (λ κs a r ws. FrameWriteGiven bist a.0.now r ws.0)
tied_write_bist = by (say (λ κs a. tt) (λ κs a r ws p. p)) (λ κs a r r' ws ws' p q. let e = emitted_once _ _ _ r r' ws.0 ws'.0 p q in (e.0, λ i. (e.1 i, tt)))

pub tied_write_data : Tied writing-said.write_data.ended writing.write_data.Reads.Asked writing.write_data.Reads.Post (λ κs a r ws. FrameWriteGiven (payload a.1.0.now) a.0.now r ws.0)
tied_write_data = by (say (λ κs a. tt) (λ κs a r ws p. p)) (λ κs a r r' ws ws' p q. let e = emitted_once _ _ _ r r' ws.0 ws'.0 p q in (e.0, λ i. (e.1 i, (tt, tt))))
