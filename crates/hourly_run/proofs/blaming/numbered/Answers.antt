use Rattle.std.proofs.Common.{sym, ap, ap₂, ◌∙◌, List, ℕ, [], ◌∷◌, ◌++◌, append_assoc, decimal}
use Rattle.hourly_table.specs.Refused.{table_number}
use Rattle.hourly_run.specs.Blamed.{refusal_words}
use Rattle.hourly_run.proofs.Came.{ok_so}
use Rattle.hourly_run.proofs.blaming.numbered.Goals as goal

pub returns : goal.returns
returns c =
    ok_so c.format.result _ _ c.format.ensures.ok
    (λ s e.
    let words = refusal_words c.args.length c.args.refusal in
    let number = decimal (table_number c.args.refusal) in
    e ∙ ap₂ (λ (w t : List ℕ). w ++ 32 ∷ 40 ∷ (t ++ 41 ∷ [])) c.in_ok-words.ensures (ap decimal c.number-number.ensures)
    ∙ sym (append_assoc (words ++ 32 ∷ 40 ∷ []) number (41 ∷ []) ∙ append_assoc words (32 ∷ 40 ∷ []) (number ++ 41 ∷ [])))
