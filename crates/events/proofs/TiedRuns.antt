-- What the contracts of the run of an event file say, by any reader and any writer: a read or a write may go more than one way. That a run has one text is a law of its own.
use Rattle.std.proofs.Common.{[], refl, false, ◌≡◌}
use denote.RattleType.{RattleType}
use denote.Param.Laws.{Laws}
use mir.Syntax.{Dict}
use Rattle.std.specs.declared.io.traits.Read as Reader
use Rattle.std.specs.declared.io.traits.Write as Writer
use Rattle.std.specs.Io.Buffered.{reader_remaining}
use Rattle.bits.specs.Contract.{SaysOver, Tied}
use Rattle.bits.proofs.Tying.{same, say, by}
use Rattle.events.specs.Runs.{Ran, OneText, OneBroken, SaidBy, said_of, run_status}
use Rattle.events.proofs.running
use Rattle.events.specs.contracts.running as running-said
use Rattle.events.proofs.aloud
use Rattle.events.specs.contracts.aloud as aloud-said

pub tied_run : (R W : RattleType) (l : Laws R) (m : Laws W) (g : Reader.Ghosts R.Denot) (d : Dict) (h : Writer.Ghosts W.Denot) (e : Dict)
    → SaysOver (running-said.run.ended R W g d h e) (running.run.Reads.Asked R W l m g d h e) (running.run.Reads.Post R W l m g d h e)
    (λ κs a r ws. a.1.0.now.failed ≡ false → a.1.1.0.now.failed ≡ false → Ran a.0 (reader_remaining g.remaining a.1.0.now.inner) (reader_remaining g.remaining ws.1.0.inner) ws.1.0.failed ws.1.1.0.failed (h.contents a.1.1.0.now.inner) (h.contents ws.1.1.0.inner) r)
tied_run R W l m g d h e = record { same = λ κs a b h. h; some = (([], ([], (R.lives, (W.lives, tt)))), λ a. ((λ x h. h), (λ x h. h))); says = λ κs a r ws p. p }

pub tied_a_run_has_one_text : Tied running-said.a_run_has_one_text.ended running.a_run_has_one_text.Reads.Asked running.a_run_has_one_text.Reads.Post (λ κs a r ws. OneText × OneBroken)
tied_a_run_has_one_text = by (say (λ κs a. tt) (λ κs a r ws p. (p.0, p.1))) (λ κs a r r' ws ws' p q. (refl, refl))

pub tied_run_aloud : (R W E : RattleType) (l : Laws R) (m : Laws W) (n : Laws E) (g : Reader.Ghosts R.Denot) (d : Dict) (h : Writer.Ghosts W.Denot) (e : Dict) (i : Writer.Ghosts E.Denot) (j : Dict)
    → SaysOver (aloud-said.run_aloud.ended R W E g d h e i j) (aloud.run_aloud.Reads.Asked R W E l m n g d h e i j) (aloud.run_aloud.Reads.Post R W E l m n g d h e i j)
    (λ κs a r ws. (a.1.0.now.failed ≡ false → a.1.1.0.now.failed ≡ false → Ran a.0 (reader_remaining g.remaining a.1.0.now.inner) (reader_remaining g.remaining ws.1.0.inner) ws.1.0.failed ws.1.1.0.failed (h.contents a.1.1.0.now.inner) (h.contents ws.1.1.0.inner) r)
    × (a.1.1.1.0.now.failed ≡ false → SaidBy ws.1.1.1.0.failed (said_of r) (i.contents a.1.1.1.0.now.inner) (i.contents ws.1.1.1.0.inner)))
tied_run_aloud R W E l m n g d h e i j = record { same = λ κs a b h. h; some = (([], ([], ([], (R.lives, (W.lives, (E.lives, tt)))))), λ a. ((λ x h. h), ((λ x h. h), (λ x h. h)))); says = λ κs a r ws p. (p.0, p.1) }

pub tied_exit_status : Tied aloud-said.exit_status.ended aloud.exit_status.Reads.Asked aloud.exit_status.Reads.Post (λ κs a r ws. r ≡ run_status a.0.now)
tied_exit_status = by (say (λ κs a. tt) (λ κs a r ws p. p)) (λ κs a r r' ws ws' p q. (same p q, refl))
