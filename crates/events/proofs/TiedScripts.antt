-- What those contracts say that serve the runs of scripts alone.
use Rattle.std.proofs.Common.{[], refl, ◌≡◌, ◌++◌, OnOk}
use denote.RattleType.{RattleType}
use denote.Param.Laws.{Laws}
use mir.Syntax.{Dict}
use Rattle.std.specs.declared.io.traits.Write as Writer
use Rattle.bits.specs.Contract.{Says, SaysOver, Tied}
use Rattle.bits.proofs.Tying.{same, say, by}
use Rattle.frames.specs.Cut.{cut}
use Rattle.events.specs.Runs.{Said, said_of, exit_status_of}
use Rattle.events.specs.Lines.{fields_of}
use Rattle.events.proofs.lines
use Rattle.events.specs.contracts.lines as lines-said
use Rattle.events.proofs.ended
use Rattle.events.specs.contracts.ended as ended-said

pub tied_exit_status : Tied ended-said.Ended.exit_status.ended ended.Ended.exit_status.Reads.Asked ended.Ended.exit_status.Reads.Post (λ κs a r ws. r ≡ exit_status_of a.0.now.run)
tied_exit_status = by (say (λ κs a. tt) (λ κs a r ws p. p)) (λ κs a r r' ws ws' p q. (same p q, refl))

pub tied_say : (E : RattleType) (l : Laws E) (h : Writer.Ghosts E.Denot) (e : Dict)
    → SaysOver (ended-said.say.ended E h e) (ended.say.Reads.Asked E l h e) (ended.say.Reads.Post E l h e)
    (λ κs a r ws. Said (said_of a.0.now) (h.contents a.1.0.now) (h.contents ws.1.0) r)
tied_say E l h e = record { same = λ κs a b h. h; some = (([], ([], (E.lives, tt))), λ a. (λ x h. h)); says = λ κs a r ws p. p }

-- without memory nothing is owed
pub tied_push_fields : Says lines-said.Format.push_fields.ended lines.Format.push_fields.Reads.Asked lines.Format.push_fields.Reads.Post (λ κs a r ws. OnOk r (ws.1.0.items ≡ a.1.0.now.items ++ fields_of a.0.traced (cut a.1.1.0.now)))
tied_push_fields = say (λ κs a. tt) (λ κs a r ws p. p)
