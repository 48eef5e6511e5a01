use Rattle.std.proofs.Common.{◌∙◌, ◌≡◌, sym, length, append-nil, rules, true, false, min}
use Rattle.streams.proofs.Gathering.{held_front, take_room}
use Rattle.streams.proofs.gathered.Lines.pass_on.Goals as goal

pub returns-in-Err-clause-pushed : goal.returns-in-Err-clause-pushed
returns-in-Err-clause-pushed g c =
    let calm : c.args.out.now.failed ≡ false = search rules in
    let lost : c.put.new.self.failed ≡ true = search rules in
    let long : length c.args.self.now.room ≡ 51200 = search rules in
    let most : c.min-held.result ≡ min c.args.self.now.held 51200 = search rules in
    held_front calm lost (take_room c.args.self.now.held c.min-held.result c.args.self.now.room long most ∙ sym (append-nil _)) c.in-Err.ensures.err
