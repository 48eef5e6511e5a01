-- What each contract says. Of what a line asks for two answers that it allows are equal, but where there is no memory; a run is by any reader and any writer, which may go more than one way.
use Rattle.std.proofs.Common.{[], ◌≡◌, IfOk, map, refl}
use denote.RattleType.{RattleType}
use denote.Param.Laws.{Laws}
use mir.Syntax.{Dict}
use Rattle.std.specs.declared.io.traits.Read as Reader
use Rattle.std.specs.declared.io.traits.Write as Writer
use Rattle.bits.specs.Contract.{Says, SaysOver, Tied}
use Rattle.bits.proofs.Tying.{same, say, by}
use Rattle.page_text.specs.declared.shelf.Shelf as Shelves
use Rattle.call_scripts.specs.Commands.{command_of}
use Rattle.call_scripts.specs.Scripts.{HasRun, OneText, OneBroken}
use Rattle.call_scripts.specs.Checks.{OneFound}
use Rattle.call_scripts.specs.CheckEnds.{HasCheckedAll, OneCheck, exit_status_of}
use Rattle.call_scripts.proofs.commands
use Rattle.call_scripts.specs.contracts.commands as commands-said
use Rattle.call_scripts.proofs.pieces
use Rattle.call_scripts.specs.contracts.pieces as pieces-said
use Rattle.call_scripts.proofs.running
use Rattle.call_scripts.specs.contracts.running as running-said
use Rattle.call_scripts.proofs.check_ends
use Rattle.call_scripts.specs.contracts.check_ends as check_ends-said
use Rattle.call_scripts.proofs.scripts
use Rattle.call_scripts.specs.contracts.scripts as scripts-said

pub tied_parse : Says commands-said.Command.parse.ended commands.Command.parse.Reads.Asked commands.Command.parse.Reads.Post (λ κs a r ws. IfOk r (λ asked. asked ≡ command_of a.1.0.now))
tied_parse = say (λ κs a. tt) (λ κs a r ws p. p)

pub tied_run_script : (R W E : RattleType) (l : Laws R) (m : Laws W) (n : Laws E) (g : Reader.Ghosts R.Denot) (d : Dict) (f : Dict) (h : Writer.Ghosts W.Denot) (e : Dict) (i : Writer.Ghosts E.Denot) (j : Dict)
    → SaysOver (pieces-said.run_script.ended R W E g d h e i j f) (pieces.run_script.Reads.Asked R W E l m n g d h e i j f) (pieces.run_script.Reads.Post R W E l m n g d h e i j f)
    (λ κs a r ws. HasRun (g.remaining a.1.0) (h.contents a.1.1.0.now) (h.contents ws.1.1.0) (i.contents a.1.1.1.0.now) (i.contents ws.1.1.1.0) r)
tied_run_script R W E l m n g d f h e i j = record { same = λ κs a b h. h; some = (([], ([], (R.lives, (W.lives, (E.lives, tt))))), λ a. ((λ x h. h), ((λ x h. h), (λ x h. h)))); says = λ κs a r ws p. p }

pub tied_a_script_has_one_text : Tied running-said.a_script_has_one_text.ended running.a_script_has_one_text.Reads.Asked running.a_script_has_one_text.Reads.Post (λ κs a r ws. OneText × OneBroken × OneFound × OneCheck)
tied_a_script_has_one_text = by (say (λ κs a. tt) (λ κs a r ws p. (p.0, p.1.0, p.1.1.0, p.1.1.1))) (λ κs a r r' ws ws' p q. (refl, refl))

pub tied_exit_status : Tied check_ends-said.CheckEnd.exit_status.ended check_ends.CheckEnd.exit_status.Reads.Asked check_ends.CheckEnd.exit_status.Reads.Post (λ κs a r ws. r ≡ exit_status_of a.0.now.run)
tied_exit_status = by (say (λ κs a. tt) (λ κs a r ws p. p)) (λ κs a r r' ws ws' p q. (same p q, refl))

-- the check of all scripts that are named: what it wrote and said, by what was known of the names, however it ended
pub tied_check_scripts : (S W E P : RattleType) (s : Laws S) (w : Laws W) (e : Laws E) (p : Laws P) (f : Shelves.Ghosts S.Denot P.Denot) (fd : Dict) (h : Writer.Ghosts W.Denot) (hd : Dict) (i : Writer.Ghosts E.Denot) (id : Dict) (j : Reader.Ghosts P.Denot) (jd : Dict) (dd : Dict)
    → SaysOver (scripts-said.check_scripts.ended S W E P f fd j jd h hd i id dd) (scripts.check_scripts.Reads.Asked S W E P s w e p f fd j jd h hd i id dd) (scripts.check_scripts.Reads.Post S W E P s w e p f fd j jd h hd i id dd)
    (λ κs a r ws. HasCheckedAll (f.holds a.1.0.now) (map (λ name. name.now) a.1.1.0.now) (h.contents a.1.1.1.0.now) (h.contents ws.1.1.1.0) (i.contents a.1.1.1.1.0.now) (i.contents ws.1.1.1.1.0) r)
tied_check_scripts S W E P s w e p f fd h hd i id j jd dd = record { same = λ κs a b x. x; some = (([], ([], ([], ([], ([], (S.lives, (W.lives, (E.lives, (P.lives, tt))))))))), λ a. ((λ x h. h), ((λ x h. h), ((λ x h. h), (λ x h. h))))); says = λ κs a r ws p. p }
