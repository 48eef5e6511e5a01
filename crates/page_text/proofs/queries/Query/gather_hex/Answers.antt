-- What was gathered of a page in hex.
use Rattle.std.proofs.Common.{rules}
use Rattle.page_text.proofs.Owing.{owes_gathered, known_taken}
use Rattle.page_text.proofs.queries.Query.gather_hex.Goals as goal

pub returns : goal.returns
returns g c = owes_gathered c.args.self (g.R.Read.remaining c.args.reader.now) c.deref.result.now _ _ c.write_input.result
    (known_taken _ _ _ (search rules)) (search rules) (search rules)
