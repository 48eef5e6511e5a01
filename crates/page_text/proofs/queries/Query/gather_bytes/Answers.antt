-- What was gathered of a page as its bytes.
use Rattle.std.proofs.Common.{take}
use Rattle.page_text.proofs.Owing.{owes_gathered, bytes_taken}
use Rattle.page_text.proofs.queries.Query.gather_bytes.Goals as goal

pub returns : goal.returns
returns g c =
    let r = c.fill_again in
    owes_gathered c.args.self (g.R.Read.remaining c.args.reader.now) (take c.in-Ok.len r.new.room) (g.W.Write.contents c.args.text.now) (g.W.Write.contents c.write_input.new.out) c.write_input.result
    (bytes_taken c.args.self (g.R.Read.remaining c.args.reader.now) (g.R.Read.remaining r.new.reader) c.in-Ok.len r.new.room c.requires r.ensures.same c.in-Ok.ensures.ok) c.write_input.ensures.text c.write_input.ensures.answer
