-- The contracts over any writer and any reader: what they say. A write or a read may go more than one way.
use Rattle.std.proofs.Common.{[], ◌≡◌, length, OnOk, OnErr, IfOk}
use denote.Param.Laws.{Laws}
use denote.RattleType.{RattleType}
use mir.Syntax.{Dict}
use Rattle.bits.specs.Contract.{SaysOver}
use Rattle.std.specs.Io.KnownBytes.{Appends, Consumes}
use Rattle.std.specs.declared.io.traits.Read as Reader
use Rattle.std.specs.declared.io.traits.Write as Writer
use Rattle.streams.specs.Fronts.{AppendsFront, Filled, StuckBefore, ReadByte}
use Rattle.streams.specs.Lost.{complaint}
use Rattle.streams.proofs.writing
use Rattle.streams.proofs.lost
use Rattle.streams.proofs.reading
use Rattle.streams.specs.contracts.writing as writing-said
use Rattle.streams.specs.contracts.lost as lost-said
use Rattle.streams.specs.contracts.reading as reading-said

pub tied_put : (W : RattleType) (l : Laws W) (g : Writer.Ghosts W.Denot) (d : Dict)
    → SaysOver (writing-said.put.ended W g d) (writing.put.Reads.Asked W l g d) (writing.put.Reads.Post W l g d)
    (λ κs a r ws. OnOk r (Appends (g.contents a.0.now) (g.contents ws.0) a.1.0.now) × OnErr r (AppendsFront (g.contents a.0.now) (g.contents ws.0) a.1.0.now))
tied_put W l g d = record { same = λ κs a b h. h; some = (([], ([], (W.lives, tt))), λ a x h. h); says = λ κs a r ws p. (p.0, p.1) }

pub tied_fill : (R : RattleType) (l : Laws R) (g : Reader.Ghosts R.Denot) (d : Dict)
    → SaysOver (reading-said.fill.ended R g d) (reading.fill.Reads.Asked R l g d) (reading.fill.Reads.Post R l g d)
    (λ κs a r ws. (length ws.1.0 ≡ length a.1.0.now) × IfOk r (λ n. Filled (g.remaining a.0.now) (g.remaining ws.0) n ws.1.0) × OnErr r (StuckBefore (g.remaining a.0.now) (g.remaining ws.0) ws.1.0))
tied_fill R l g d = record { same = λ κs a b h. h; some = (([], ([], (R.lives, tt))), λ a x h. h); says = λ κs a r ws p. (p.0, p.1.0, p.1.1) }

pub tied_read_byte : (R : RattleType) (l : Laws R) (g : Reader.Ghosts R.Denot) (d : Dict)
    → SaysOver (reading-said.read_byte.ended R g d) (reading.read_byte.Reads.Asked R l g d) (reading.read_byte.Reads.Post R l g d)
    (λ κs a r ws. IfOk r (λ byte. ReadByte (g.remaining a.0.now) byte (g.remaining ws.0)) × OnErr r (Consumes (g.remaining a.0.now) (g.remaining ws.0) []))
tied_read_byte R l g d = record { same = λ κs a b h. h; some = (([], (R.lives, tt)), λ a x h. h); says = λ κs a r ws p. (p.0, p.1) }

pub tied_complain : (W : RattleType) (l : Laws W) (g : Writer.Ghosts W.Denot) (d : Dict)
    → SaysOver (lost-said.complain.ended W g d) (lost.complain.Reads.Asked W l g d) (lost.complain.Reads.Post W l g d)
    (λ κs a r ws. OnOk r (Appends (g.contents a.0.now) (g.contents ws.0) complaint) × OnErr r (AppendsFront (g.contents a.0.now) (g.contents ws.0) complaint))
tied_complain W l g d = record { same = λ κs a b h. h; some = (([], (W.lives, tt)), λ a x h. h); says = λ κs a r ws p. (p.0, p.1) }
