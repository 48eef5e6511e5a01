-- Each public function's own contract: over any writer what it says, of a write that fails too; over a buffer that it allows one answer besides.
use Rattle.std.proofs.Common.{[], ◌≡◌, OnOk, OnErr, IfOk}
use denote.Param.Laws.{Laws}
use denote.RattleType.{RattleType}
use mir.Syntax.{Dict}
use Rattle.bits.specs.Contract.{Says, SaysOver, Sole}
use Rattle.bits.proofs.Tying.{same, say, sole}
use Rattle.std.specs.Io.KnownBytes.{Appends}
use Rattle.std.specs.declared.io.traits.Write as Writer
use Rattle.refusals.specs.First.{refusal_in}
use Rattle.streams.specs.Fronts.{AppendsFront}
use Rattle.page_text.specs.Fields.{log_told, fields_text}
use Rattle.page_text.specs.Counters.{counters_told, counters_text}
use Rattle.identity.specs.Read.{read_identity}
use Rattle.page_text.specs.Identity.{identified_text}
use Rattle.page_text.specs.Given.{WholeTextGiven}
use Rattle.page_text.proofs.counter_lines
use Rattle.page_text.proofs.identity_lines
use Rattle.page_text.specs.contracts.identity_lines as identity_lines-said
use Rattle.page_text.proofs.fields
use Rattle.page_text.specs.contracts.counter_lines as counter_lines-said
use Rattle.page_text.specs.contracts.fields as fields-said

pub tied_write_fields : (W : RattleType) (l : Laws W) (g : Writer.Ghosts W.Denot) (d : Dict)
    → SaysOver (fields-said.write_fields.ended W g d) (fields.write_fields.Reads.Asked W l g d) (fields.write_fields.Reads.Post W l g d)
    (λ κs a r ws. OnOk r (Appends (g.contents a.0.now) (g.contents ws.0) (fields_text a.1.0.now)) × IfOk r (λ refusal. refusal ≡ refusal_in (log_told a.1.0.now)) × OnErr r (AppendsFront (g.contents a.0.now) (g.contents ws.0) (fields_text a.1.0.now)))
tied_write_fields W l g d = record { same = λ κs a b h. h; some = (([], ([], (W.lives, tt))), λ a x h. h); says = λ κs a r ws p. (p.0, p.1.0, p.1.1) }

pub tied_put_fields : Sole fields-said.put_fields.ended fields.put_fields.Reads.Asked fields.put_fields.Reads.Post
tied_put_fields = sole (λ κs a. tt) (λ κs a r r' ws ws' p q. (same p.len q.len, λ i. (same p.bytes q.bytes i, (tt, tt))))

pub said_put_fields : Says fields-said.put_fields.ended fields.put_fields.Reads.Asked fields.put_fields.Reads.Post (λ κs a r ws. WholeTextGiven (fields_text a.1.0.now) a.0.now r ws.0)
said_put_fields = say (λ κs a. tt) (λ κs a r ws p. p)

pub tied_write_counters : (W : RattleType) (l : Laws W) (g : Writer.Ghosts W.Denot) (d : Dict)
    → SaysOver (counter_lines-said.write_counters.ended W g d) (counter_lines.write_counters.Reads.Asked W l g d) (counter_lines.write_counters.Reads.Post W l g d)
    (λ κs a r ws. OnOk r (Appends (g.contents a.0.now) (g.contents ws.0) (counters_text a.1.0.now)) × IfOk r (λ refusal. refusal ≡ refusal_in (counters_told a.1.0.now)) × OnErr r (AppendsFront (g.contents a.0.now) (g.contents ws.0) (counters_text a.1.0.now)))
tied_write_counters W l g d = record { same = λ κs a b h. h; some = (([], ([], (W.lives, tt))), λ a x h. h); says = λ κs a r ws p. (p.0, p.1.0, p.1.1) }

pub tied_put_counters : Sole counter_lines-said.put_counters.ended counter_lines.put_counters.Reads.Asked counter_lines.put_counters.Reads.Post
tied_put_counters = sole (λ κs a. tt) (λ κs a r r' ws ws' p q. (same p.len q.len, λ i. (same p.bytes q.bytes i, (tt, tt))))

pub said_put_counters : Says counter_lines-said.put_counters.ended counter_lines.put_counters.Reads.Asked counter_lines.put_counters.Reads.Post (λ κs a r ws. WholeTextGiven (counters_text a.1.0.now) a.0.now r ws.0)
said_put_counters = say (λ κs a. tt) (λ κs a r ws p. p)

pub tied_write_identified : (W : RattleType) (l : Laws W) (g : Writer.Ghosts W.Denot) (d : Dict)
    → SaysOver (identity_lines-said.write_identified.ended W g d) (identity_lines.write_identified.Reads.Asked W l g d) (identity_lines.write_identified.Reads.Post W l g d)
    (λ κs a r ws. OnOk r (Appends (g.contents a.0.now) (g.contents ws.0) (identified_text a.1.0.now)) × IfOk r (λ refusal. refusal ≡ refusal_in (read_identity a.1.0.now)) × OnErr r (AppendsFront (g.contents a.0.now) (g.contents ws.0) (identified_text a.1.0.now)))
tied_write_identified W l g d = record { same = λ κs a b h. h; some = (([], ([], (W.lives, tt))), λ a x h. h); says = λ κs a r ws p. (p.0, p.1.0, p.1.1) }
