use Rattle.std.proofs.Common.{◌≡◌, sym, ap, rules, true, false, ◌++◌}
use Rattle.streams.proofs.Gathering.{held_front, past_room, pushes_then}
use Rattle.streams.proofs.gathered.Lines.push_past.Goals as goal

pub returns-in-Err : goal.returns-in-Err
returns-in-Err g c =
    let calm : c.pass_on.new.out.failed ≡ false = search rules in
    let lost : c.put.new.self.failed ≡ true = search rules in
    record { pushed = pushes_then c.pass_on.ensures.pushed (held_front calm lost (sym (ap (λ l. l ++ c.args.text.now) c.pass_on.ensures.none)) c.in-Err.ensures.err) }

pub returns-in_default : goal.returns-in_default
returns-in_default g c =
    let calm : c.pass_on.new.out.failed ≡ false = search rules in
    let still : c.put.new.self.failed ≡ false = search rules in
    record { pushed = pushes_then c.pass_on.ensures.pushed (past_room calm still c.pass_on.ensures.none c.pass_on.ensures.none c.in_default.ensures.ok) }
