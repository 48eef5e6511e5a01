-- The public functions' own contracts: what they say. A run reads from any reader and any shelf and writes to any writer, and may go more than one way.
use Rattle.std.proofs.Common.{refl, ◌≡◌, [], map}
use denote.Param.Laws.{Laws}
use denote.RattleType.{RattleType}
use mir.Syntax.{Dict}
use Rattle.bits.specs.Contract.{SaysOver, Sole, Tied}
use Rattle.bits.proofs.Tying.{same, say, sole, by}
use Rattle.std.specs.declared.io.traits.Read as Reader
use Rattle.std.specs.declared.io.traits.Write as Writer
use Rattle.page_text.specs.declared.shelf.Shelf as Shelves
use Rattle.page_text.specs.Runs.{Ran, SaysMissing, exit_status_of}
use Rattle.page_text.proofs.ends
use Rattle.page_text.proofs.queries
use Rattle.page_text.specs.contracts.ends as ends-said
use Rattle.page_text.specs.contracts.queries as queries-said
use Rattle.page_text.proofs.parsing
use Rattle.page_text.specs.contracts.parsing as parsing-said

pub tied_exit_status : Tied ends-said.exit_status.ended ends.exit_status.Reads.Asked ends.exit_status.Reads.Post (λ κs a r ws. r ≡ exit_status_of a.0)
tied_exit_status = by (say (λ κs a. tt) (λ κs a r ws p. p)) (λ κs a r r' ws ws' p q. (same p q, refl))

-- what is said where lines are missing, over any writer
pub tied_said_on : (W : RattleType) (l : Laws W) (g : Writer.Ghosts W.Denot) (d : Dict)
    → SaysOver (ends-said.Lost.said_on.ended W g d) (ends.Lost.said_on.Reads.Asked W l g d) (ends.Lost.said_on.Reads.Post W l g d)
    (λ κs a r ws. SaysMissing (g.contents a.0.now) (g.contents ws.0) r)
tied_said_on W l g d = record { same = λ κs a b x. x; some = (([], (W.lives, tt)), λ a x h. h); says = λ κs a r ws p. p }

-- the whole run: all that it wrote, and what it complained of, by what it read and what was known of the names, however it ended
pub tied_run : (S R W E P : RattleType) (s : Laws S) (r : Laws R) (w : Laws W) (e : Laws E) (p : Laws P) (f : Shelves.Ghosts S.Denot P.Denot) (fd : Dict) (g : Reader.Ghosts R.Denot) (gd : Dict) (h : Writer.Ghosts W.Denot) (hd : Dict) (i : Writer.Ghosts E.Denot) (id : Dict) (j : Reader.Ghosts P.Denot) (jd : Dict) (dd : Dict)
    → SaysOver (queries-said.Query.run.ended S R W E P f fd j jd g gd h hd i id dd) (queries.Query.run.Reads.Asked S R W E P s r w e p f fd j jd g gd h hd i id dd) (queries.Query.run.Reads.Post S R W E P s r w e p f fd j jd g gd h hd i id dd)
    (λ κs a r ws. Ran a.0 (f.holds a.1.0.now) (map (λ name. name.now) a.1.1.0.now) (g.remaining a.1.1.1.0.now) (h.contents a.1.1.1.1.0.now) (h.contents ws.1.1.1.1.0) (i.contents a.1.1.1.1.1.0.now) (i.contents ws.1.1.1.1.1.0) r)
tied_run S R W E P s r w e p f fd g gd h hd i id j jd dd = record { same = λ κs a b x. x; some = (([], ([], ([], ([], ([], ([], (S.lives, (R.lives, (W.lives, (E.lives, (P.lives, tt))))))))))), λ a. ((λ x h. h), ((λ x h. h), ((λ x h. h), ((λ x h. h), (λ x h. h)))))); says = λ κs a r ws p. p }

pub tied_parse_page : Sole parsing-said.parse_page.ended parsing.parse_page.Reads.Asked parsing.parse_page.Reads.Post
tied_parse_page = sole (λ κs a. tt) (λ κs a r r' ws ws' p q. (same p q, refl))
