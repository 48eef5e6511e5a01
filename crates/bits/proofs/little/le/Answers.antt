use Rattle.std.proofs.Common.{rules}
use Rattle.bits.proofs.Littles.{number_8}
use Rattle.bits.proofs.little.le.Goals as goal

pub returns : goal.returns
returns c = number_8 c.args.bytes.now _ _ c.args.at _ c.args.count _ c.from_le_bytes.ensures c.padded.ensures c.part.ensures (search rules) (search rules)
