-- Each public function's own contract: it asks nothing, it says what stands here, of arguments too that no proved caller gives, and two answers which it allows are equal.
use Rattle.std.proofs.Common.{drop, get_or, ◌++◌, bit_and, ◌≡◌, refl}
use Rattle.bits.specs.Bit.{bit_in}
use Rattle.frames.specs.Cut.{cut}
use Rattle.frames.specs.Emit.{WriteGiven}
use Rattle.frames.specs.Pages.{page_named}
use Rattle.frames.specs.Shared.{flags_of, register_bytes, sectors_of, srst_of, tag_of, task_fits, task_of}
use Rattle.frames.specs.Size.{allows, fixed_size, kind_named, payload_size, size_of}
use Rattle.bits.specs.Contract.{Says, Tied}
use Rattle.std.specs.Iterator.{YieldsFirstRef}
use Rattle.bits.proofs.Tying.{same, say, by}
use Rattle.frames.proofs.EmitLaws.{emitted_once}
use Rattle.frames.proofs.cutting
use Rattle.frames.specs.contracts.cutting as cutting-said
use Rattle.frames.proofs.emitting
use Rattle.frames.specs.contracts.emitting as emitting-said
use Rattle.frames.proofs.kinds
use Rattle.frames.specs.contracts.kinds as kinds-said
use Rattle.frames.proofs.log_pages
use Rattle.frames.specs.contracts.log_pages as log_pages-said
use Rattle.frames.proofs.shared
use Rattle.frames.specs.contracts.shared as shared-said
use Rattle.frames.proofs.sizes
use Rattle.frames.specs.contracts.sizes as sizes-said

pub tied_frames_of : Tied cutting-said.frames_of.ended cutting.frames_of.Reads.Asked cutting.frames_of.Reads.Post (λ κs a r ws. r ≡ cut a.0.now)
tied_frames_of = by (say (λ κs a. tt) (λ κs a r ws p. p)) (λ κs a r r' ws ws' p q. (same p q, refl))

-- a step of the frames gives the first of those that are left, and the others stay; of two answers the frames are equal, the references need not be
pub says_next : Says cutting-said.FramesIterator.next.ended cutting.FramesIterator.next.Reads.Asked cutting.FramesIterator.next.Reads.Post (λ κs a r ws. YieldsFirstRef (λ left. left) a.0.now r ws.0)
says_next = say (λ κs a. tt) (λ κs a r ws p. p.0)

pub tied_emit : Tied emitting-said.emit.ended emitting.emit.Reads.Asked emitting.emit.Reads.Post (λ κs a r ws. WriteGiven a.1.0 (a.1.1.0.now ++ a.1.1.1.0.now) a.0.now r ws.0)
tied_emit = by (say (λ κs a. tt) (λ κs a r ws p. p)) (λ κs a r r' ws ws' p q. let e = emitted_once _ _ _ r r' ws.0 ws'.0 p q in (e.0, λ i. (e.1 i, (tt, (tt, (tt, tt))))))

pub tied_from_byte : Tied kinds-said.FrameKind.from_byte.ended kinds.FrameKind.from_byte.Reads.Asked kinds.FrameKind.from_byte.Reads.Post (λ κs a r ws. r ≡ kind_named a.0)
tied_from_byte = by (say (λ κs a. tt) (λ κs a r ws p. p)) (λ κs a r r' ws ws' p q. (same p q, refl))

pub tied_size : Tied kinds-said.FrameKind.size.ended kinds.FrameKind.size.Reads.Asked kinds.FrameKind.size.Reads.Post (λ κs a r ws. r ≡ size_of a.0)
tied_size = by (say (λ κs a. tt) (λ κs a r ws p. p)) (λ κs a r r' ws ws' p q. (same p q, refl))

pub tied_allows : Tied kinds-said.FrameKind.allows.ended kinds.FrameKind.allows.Reads.Asked kinds.FrameKind.allows.Reads.Post (λ κs a r ws. r ≡ allows a.0 a.1.0)
tied_allows = by (say (λ κs a. tt) (λ κs a r ws p. p)) (λ κs a r r' ws ws' p q. (same p q, refl))

pub tied_from_number : Tied log_pages-said.LogPage.from_number.ended log_pages.LogPage.from_number.Reads.Asked log_pages.LogPage.from_number.Reads.Post (λ κs a r ws. r ≡ page_named a.0)
tied_from_number = by (say (λ κs a. tt) (λ κs a r ws p. p)) (λ κs a r r' ws ws' p q. (same p q, refl))

pub tied_byte_of : Tied shared-said.byte_of.ended shared.byte_of.Reads.Asked shared.byte_of.Reads.Post (λ κs a r ws. r ≡ get_or a.0.now a.1.0 0)
tied_byte_of = by (say (λ κs a. tt) (λ κs a r ws p. p)) (λ κs a r r' ws ws' p q. (same p q, refl))

-- of two answers the bytes are equal, the references need not be
pub tied_payload_of : Says shared-said.payload_of.ended shared.payload_of.Reads.Asked shared.payload_of.Reads.Post (λ κs a r ws. r.now ≡ drop 4 a.0.now)
tied_payload_of = say (λ κs a. tt) (λ κs a r ws p. p)

pub tied_flag : Tied shared-said.flag.ended shared.flag.Reads.Asked shared.flag.Reads.Post (λ κs a r ws. r ≡ bit_in 8 a.0 a.1.0)
tied_flag = by (say (λ κs a. tt) (λ κs a r ws p. p)) (λ κs a r r' ws ws' p q. (same p q, refl))

pub tied_srst : Tied shared-said.srst.ended shared.srst.Reads.Asked shared.srst.Reads.Post (λ κs a r ws. r ≡ srst_of a.0)
tied_srst = by (say (λ κs a. tt) (λ κs a r ws p. p)) (λ κs a r r' ws ws' p q. (same p q, refl))

pub tied_flags : Tied shared-said.flags.ended shared.flags.Reads.Asked shared.flags.Reads.Post (λ κs a r ws. r ≡ flags_of a.0 a.1.0 a.1.1.0)
tied_flags = by (say (λ κs a. tt) (λ κs a r ws p. p)) (λ κs a r r' ws ws' p q. (same p q, refl))

pub tied_halves : Tied shared-said.halves.ended shared.halves.Reads.Asked shared.halves.Reads.Post (λ κs a r ws. r ≡ bit_and a.0 0x77)
tied_halves = by (say (λ κs a. tt) (λ κs a r ws p. p)) (λ κs a r r' ws ws' p q. (same p q, refl))

pub tied_from_frame : Tied shared-said.Task.from_frame.ended shared.Task.from_frame.Reads.Asked shared.Task.from_frame.Reads.Post (λ κs a r ws. r ≡ task_of a.0.now)
tied_from_frame = by (say (λ κs a. tt) (λ κs a r ws p. p)) (λ κs a r r' ws ws' p q. (same p q, refl))

pub tied_tag_of : Tied shared-said.tag_of.ended shared.tag_of.Reads.Asked shared.tag_of.Reads.Post (λ κs a r ws. r ≡ tag_of a.0)
tied_tag_of = by (say (λ κs a. tt) (λ κs a r ws p. p)) (λ κs a r r' ws ws' p q. (same p q, refl))

pub tied_sectors_of : Tied shared-said.sectors_of.ended shared.sectors_of.Reads.Asked shared.sectors_of.Reads.Post (λ κs a r ws. r ≡ sectors_of a.0 a.1.0)
tied_sectors_of = by (say (λ κs a. tt) (λ κs a r ws p. p)) (λ κs a r r' ws ws' p q. (same p q, refl))

pub tied_to_bytes : Tied shared-said.Registers.to_bytes.ended shared.Registers.to_bytes.Reads.Asked shared.Registers.to_bytes.Reads.Post (λ κs a r ws. r ≡ register_bytes a.0)
tied_to_bytes = by (say (λ κs a. tt) (λ κs a r ws p. p)) (λ κs a r r' ws ws' p q. (same p q, refl))

pub tied_fits : Tied shared-said.Task.fits.ended shared.Task.fits.Reads.Asked shared.Task.fits.Reads.Post (λ κs a r ws. r ≡ task_fits a.0)
tied_fits = by (say (λ κs a. tt) (λ κs a r ws p. p)) (λ κs a r r' ws ws' p q. (same p q, refl))

pub tied_fixed_size : Tied sizes-said.fixed_size.ended sizes.fixed_size.Reads.Asked sizes.fixed_size.Reads.Post (λ κs a r ws. r ≡ fixed_size a.0)
tied_fixed_size = by (say (λ κs a. tt) (λ κs a r ws p. p)) (λ κs a r r' ws ws' p q. (same p q, refl))

pub tied_is_payload_size : Tied sizes-said.is_payload_size.ended sizes.is_payload_size.Reads.Asked sizes.is_payload_size.Reads.Post (λ κs a r ws. r ≡ payload_size a.0)
tied_is_payload_size = by (say (λ κs a. tt) (λ κs a r ws p. p)) (λ κs a r r' ws ws' p q. (same p q, refl))
