-- A row, part by part.
use Rattle.std.proofs.Common.{◌≡◌, ℕ, [], ◌∷◌, ◌++◌, append_assoc, decimal, Option}
use Rattle.hourly_table.specs.Rows.{hex_number, field_text, row_text}

pub row_parts : (hour number : ℕ) (change : Option ℕ) → row_text hour number change ≡ decimal hour ++ (44 ∷ (hex_number number ++ (44 ∷ (field_text change ++ (13 ∷ 10 ∷ [])))))
unfolding row_text
row_parts hour number change = simp append_assoc
