-- The contracts of gathered lines, over any writer: what they say.
use Rattle.std.proofs.Common.{[], ◌≡◌}
use denote.Param.Laws.{Laws}
use denote.RattleType.{RattleType}
use mir.Syntax.{Dict}
use Rattle.bits.specs.Contract.{Says, SaysOver}
use Rattle.bits.proofs.Tying.{say}
use Rattle.std.specs.declared.io.traits.Write as Writer
use Rattle.streams.specs.Gathered.{held_back, gathering, Pushes}
use Rattle.streams.proofs.gathered
use Rattle.streams.specs.contracts.gathered as gathered-said

pub tied_new : Says gathered-said.Lines.new.ended gathered.Lines.new.Reads.Asked gathered.Lines.new.Reads.Post (λ κs a r ws. held_back r ≡ [])
tied_new = say (λ κs a. tt) (λ κs a r ws p. p)

pub tied_error : Says gathered-said.Lines.error.ended gathered.Lines.error.Reads.Asked gathered.Lines.error.Reads.Post (λ κs a r ws. held_back ws.0 ≡ held_back a.0.now)
tied_error = say (λ κs a. tt) (λ κs a r ws p. p)

pub tied_pass_on : (W : RattleType) (l : Laws W) (g : Writer.Ghosts W.Denot) (d : Dict)
    → SaysOver (gathered-said.Lines.pass_on.ended W g d) (gathered.Lines.pass_on.Reads.Asked W l g d) (gathered.Lines.pass_on.Reads.Post W l g d)
    (λ κs a r ws. (held_back ws.0 ≡ []) × (ws.0.held ≡ 0) × Pushes (gathering (g.contents a.1.0.now.inner) (held_back a.0.now) a.1.0.now.failed) (gathering (g.contents ws.1.0.inner) (held_back ws.0) ws.1.0.failed) [])
tied_pass_on W l g d = record { same = λ κs a b h. h; some = (([], ([], (W.lives, tt))), λ a x h. h); says = λ κs a r ws p. (p.0, p.1.0, p.1.1) }

pub tied_push : (W : RattleType) (l : Laws W) (g : Writer.Ghosts W.Denot) (d : Dict)
    → SaysOver (gathered-said.Lines.push.ended W g d) (gathered.Lines.push.Reads.Asked W l g d) (gathered.Lines.push.Reads.Post W l g d)
    (λ κs a r ws. Pushes (gathering (g.contents a.1.0.now.inner) (held_back a.0.now) a.1.0.now.failed) (gathering (g.contents ws.1.0.inner) (held_back ws.0) ws.1.0.failed) a.1.1.0.now)
tied_push W l g d = record { same = λ κs a b h. h; some = (([], ([], ([], (W.lives, tt)))), λ a x h. h); says = λ κs a r ws p. p }

pub tied_pass_much_on : (W : RattleType) (l : Laws W) (g : Writer.Ghosts W.Denot) (d : Dict)
    → SaysOver (gathered-said.Lines.pass_much_on.ended W g d) (gathered.Lines.pass_much_on.Reads.Asked W l g d) (gathered.Lines.pass_much_on.Reads.Post W l g d)
    (λ κs a r ws. Pushes (gathering (g.contents a.1.0.now.inner) (held_back a.0.now) a.1.0.now.failed) (gathering (g.contents ws.1.0.inner) (held_back ws.0) ws.1.0.failed) [])
tied_pass_much_on W l g d = record { same = λ κs a b h. h; some = (([], ([], (W.lives, tt))), λ a x h. h); says = λ κs a r ws p. p }
