use Rattle.std.proofs.Common.{rules, ◌≡◌, append-nil}
use Rattle.frames.specs.Write.{fits}
use Rattle.frames.specs.Write.FrameValue.{set_bits}
use Rattle.frames.proofs.HalvesLaws.{halves_given}
use Rattle.frames.proofs.writing.write_bits.Goals as goal

pub returns : goal.returns
unfolding fits
returns c =
    let same : fits (set_bits c.args.frame) ≡ c.fits.result = search rules in
    rw same (halves_given c.fits.result c.args.frame c.args.buf.now c.emit.result c.emit.new.buf c.fits.ensures (rw (append-nil c.to_bytes.result, c.to_bytes.ensures) at c.emit.ensures))
