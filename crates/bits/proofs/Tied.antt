-- Each public function's own contract: it asks nothing, it says what stands here, of arguments too that no proved caller gives, and two answers which it allows are equal.
use Rattle.std.proofs.Common.{take, drop, length, leb, min, ◌≡◌, refl}
use Rattle.bits.specs.Bit.{bit_in, with_bit_in}
use Rattle.bits.specs.Laid.{overlay_with_room}
use Rattle.bits.specs.Little.{NumberGiven, le_at}
use Rattle.bits.specs.Contract.{Says, Tied}
use Rattle.bits.proofs.Tying.{same, say, by}
use Rattle.bits.proofs.copying
use Rattle.bits.specs.contracts.copying as copying-said
use Rattle.bits.proofs.little
use Rattle.bits.specs.contracts.little as little-said
use Rattle.bits.proofs.mask
use Rattle.bits.specs.contracts.mask as mask-said
use Rattle.bits.proofs.parts
use Rattle.bits.specs.contracts.parts as parts-said

pub tied_lay : Tied copying-said.lay.ended copying.lay.Reads.Asked copying.lay.Reads.Post (λ κs a r ws. (r ≡ leb (length a.1.0.now) (length a.0.now)) × (ws.0 ≡ overlay_with_room a.1.0.now a.0.now))
tied_lay = by (say (λ κs a. tt) (λ κs a r ws p. p)) (λ κs a r r' ws ws' p q. (same p.0 q.0, λ i. (same p.1 q.1 i, (tt, tt))))

pub tied_le : Tied little-said.le.ended little.le.Reads.Asked little.le.Reads.Post (λ κs a r ws. NumberGiven a.0.now a.1.0 (min a.1.1.0 8) r)
tied_le = by (say (λ κs a. tt) (λ κs a r ws p. p)) (λ κs a r r' ws ws' p q. (same p.value q.value, refl))

pub tied_le16 : Tied little-said.le16.ended little.le16.Reads.Asked little.le16.Reads.Post (λ κs a r ws. r ≡ le_at a.0.now a.1.0 2)
tied_le16 = by (say (λ κs a. tt) (λ κs a r ws p. p)) (λ κs a r r' ws ws' p q. (same p q, refl))

pub tied_le32 : Tied little-said.le32.ended little.le32.Reads.Asked little.le32.Reads.Post (λ κs a r ws. r ≡ le_at a.0.now a.1.0 4)
tied_le32 = by (say (λ κs a. tt) (λ κs a r ws p. p)) (λ κs a r r' ws ws' p q. (same p q, refl))

pub tied_bit : Tied mask-said.bit.ended mask.bit.Reads.Asked mask.bit.Reads.Post (λ κs a r ws. r ≡ bit_in 32 a.0 a.1.0)
tied_bit = by (say (λ κs a. tt) (λ κs a r ws p. p)) (λ κs a r r' ws ws' p q. (same p q, refl))

pub tied_with_bit : Tied mask-said.with_bit.ended mask.with_bit.Reads.Asked mask.with_bit.Reads.Post (λ κs a r ws. r ≡ with_bit_in 32 a.0 a.1.0)
tied_with_bit = by (say (λ κs a. tt) (λ κs a r ws p. p)) (λ κs a r r' ws ws' p q. (same p q, refl))

-- of two answers the bytes are equal, the references need not be
pub tied_part : Says parts-said.part.ended parts.part.Reads.Asked parts.part.Reads.Post (λ κs a r ws. r.now ≡ take a.1.1.0 (drop a.1.0 a.0.now))
tied_part = say (λ κs a. tt) (λ κs a r ws p. p)
