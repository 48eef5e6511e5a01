-- What the writer promises is one answer and one buffer.
use Rattle.std.proofs.Common.{◌≡◌, sym, ap, ◌∙◌, ℕ, List, Result}
use Rattle.hourly_table.specs.Samples.{Sampled}
use Rattle.hourly_table.specs.Table.{table, written, TableGiven}
use Rattle.hourly_table.specs.declared.reasons.TableRefusal.{TableRefusal}

pub given_once : (samples : List Sampled) (numbers old : List ℕ) (r r' : Result ℕ TableRefusal) (new new' : List ℕ)
    → TableGiven samples numbers old r new → TableGiven samples numbers old r' new' → (r ≡ r') × (new ≡ new')
given_once samples numbers old r r' new new' p q =
    let same : r ≡ r' = p.answer ∙ sym q.answer in
    (same, p.bytes ∙ ap (λ (x : Result ℕ TableRefusal). written (table samples numbers) x old) same ∙ sym q.bytes)
