use Rattle.call_scripts.proofs.AnswerLaws.{room_is}
use Rattle.call_scripts.proofs.write_lines.write_writing.Goals as goal

pub returns : goal.returns
returns g c =
    let buffer = room_is c.args.room c.min-size.result c.min-size.ensures in
    rw buffer at c.write_line.ensures
