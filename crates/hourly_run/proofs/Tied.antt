-- The run's own contract: what it says. It reads from any shelf and writes to any writer, and may go more than one way.
use denote.RattleType.{RattleType}
use denote.Param.Laws.{Laws}
use mir.Syntax.{Dict}
use Rattle.std.proofs.Common.{[]}
use Rattle.bits.specs.Contract.{SaysOver}
use Rattle.std.specs.declared.io.traits.Read as Reader
use Rattle.std.specs.declared.io.traits.Write as Writer
use Rattle.page_text.specs.declared.shelf.Shelf as Shelves
use Rattle.hourly_run.specs.Asked.{asked}
use Rattle.hourly_run.specs.Runs.{Ran}
use Rattle.hourly_run.proofs.running
use Rattle.hourly_run.specs.contracts.running as running-said

-- all that it wrote, and what it said, by what is asked and what is known of the names, however it ended
pub tied_run : (S W E P : RattleType) (s : Laws S) (w : Laws W) (e : Laws E) (p : Laws P) (f : Shelves.Ghosts S.Denot P.Denot) (fd : Dict) (h : Writer.Ghosts W.Denot) (hd : Dict) (i : Writer.Ghosts E.Denot) (id : Dict) (j : Reader.Ghosts P.Denot) (jd : Dict) (dd : Dict)
    → SaysOver (running-said.run.ended S W E P f fd j jd h hd i id dd) (running.run.Reads.Asked S W E P s w e p f fd j jd h hd i id dd) (running.run.Reads.Post S W E P s w e p f fd j jd h hd i id dd)
    (λ κs a r ws. Ran (f.holds a.1.0.now) (asked a.1.1.0) (h.contents a.1.1.1.0.now) (h.contents ws.1.1.1.0) (i.contents a.1.1.1.1.0.now) (i.contents ws.1.1.1.1.0) r)
tied_run S W E P s w e p f fd h hd i id j jd dd = record { same = λ κs a b x. x; some = (([], ([], ([], ([], (S.lives, (W.lives, (E.lives, (P.lives, tt)))))))), λ a. ((λ x h. h), ((λ x h. h), ((λ x h. h), (λ x h. h))))); says = λ κs a r ws p. p }
