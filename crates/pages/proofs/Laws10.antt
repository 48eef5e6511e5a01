-- Laws of page 10h.
use Rattle.std.proofs.Common.{◌≡◌, ap, ◌∙◌, List, ◌++◌, ℕ, ◌%◌, ◌<◌, lit≤, eqb, eqb→eq, bit_and, length, replicate}
use Rattle.bits.specs.Pick.{pick}
use Rattle.bits.specs.Bit.{bit_in}
use Rattle.bits.specs.Laid.{overlay_with_room}
use Rattle.bits.proofs.Fronts.{over_yes}
use Rattle.bits.proofs.Tables.{below_all}
use Rattle.pages.specs.Sum.{sealed_page}
use Rattle.pages.specs.Page10.{first_byte}

-- a head of 20 bytes laid over 512 zeros, and then sealed
pub made : (head p : List ℕ) → length head ≡ 20 → p ≡ overlay_with_room head (replicate 512 0) → sealed_page p ≡ sealed_page (head ++ replicate 492 0)
made head p l e = ap sealed_page (e ∙ over_yes head (replicate 512 0) (rw l (lit≤ tt)) ∙ rw l)

-- what is named of byte 0 tells the tag, and 0 under NQ
pub tag_named : (b : ℕ) → b < 256 → bit_and b (pick (bit_in 8 b 7) 0x80 0x9F) % 32 ≡ pick (bit_in 8 b 7) 0 (b % 32)
tag_named b h = eqb→eq _ _ (below_all 256 (λ x. eqb (bit_and x (pick (bit_in 8 x 7) 0x80 0x9F) % 32) (pick (bit_in 8 x 7) 0 (x % 32))) tt b h)

-- and it is byte 0 of the NQ and the tag that it tells
pub first_again : (b : ℕ) → b < 256 → first_byte (bit_in 8 b 7) (bit_and b (pick (bit_in 8 b 7) 0x80 0x9F) % 32) ≡ bit_and b (pick (bit_in 8 b 7) 0x80 0x9F)
first_again b h = eqb→eq _ _ (below_all 256 (λ x. eqb (first_byte (bit_in 8 x 7) (bit_and x (pick (bit_in 8 x 7) 0x80 0x9F) % 32)) (bit_and x (pick (bit_in 8 x 7) 0x80 0x9F))) tt b h)
