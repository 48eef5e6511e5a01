-- A field is the decimal of what was counted, and empty where nothing is known to have been.
use Rattle.std.proofs.Common.{◌≡◌, refl, ap, ℕ, List, [], Option, Some, None, decimal}
use Rattle.hourly_table.specs.Samples.{Sampled}
use Rattle.hourly_table.specs.Changes.{change_in}
use Rattle.hourly_table.specs.Counted.{Counted}
use Rattle.hourly_table.specs.Rows.{field_text}
use Rattle.hourly_table.proofs.ChangeLaws.{change_exactly}

pub field_told : (samples : List Sampled) (hour number c : ℕ) → Counted samples hour number c → field_text (change_in samples hour number) ≡ decimal c
field_told samples hour number c k = ap field_text ((change_exactly samples hour number c).1 k)

-- of no change the field is empty
empty_of : (o : Option ℕ) → ((c : ℕ) → o ≡ Some c → ⊥) → field_text o ≡ []
empty_of None never = refl
empty_of (Some c) never = absurd (never c refl)

pub field_gap : (samples : List Sampled) (hour number : ℕ) → ((c : ℕ) → Counted samples hour number c → ⊥) → field_text (change_in samples hour number) ≡ []
field_gap samples hour number never = empty_of (change_in samples hour number) (λ c e. never c ((change_exactly samples hour number c).0 e))
