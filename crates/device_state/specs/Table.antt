-- The table of entries, and tests over a table.
use Rattle.std.specs.Prelude.{Bool, false, ◌||◌, List, [], ◌∷◌, ◌++◌, ℕ, zero, suc, eqb, get_or}
use Rattle.bits.specs.Pick.{pick}
use Rattle.bits.specs.Bit.{bit_in}
use Rattle.device_state.specs.State.{zero_entry}
use Rattle.device_state.specs.declared.shapes.Entry.{Entry}

-- some number below n is so
unfoldable pub some_below : ℕ → (ℕ → Bool) → Bool
some_below zero p = false
some_below (suc n) p = some_below n p || p n

-- the list f 0, f 1, .. of n elements
unfoldable pub tabulation : {A : Type 0} → ℕ → (ℕ → A) → List A
tabulation zero f = []
tabulation (suc n) f = tabulation n f ++ (f n ∷ [])

-- the entry of a tag; of a tag that has none, an idle one [own-entry]
abbrev pub entry_of : List Entry → ℕ → Entry
entry_of es t = get_or es t zero_entry

-- the table with the entry of tag t anew; place by place, so that no law about it asks for the table's length [own-entry]
unfoldable pub table_with : List Entry → ℕ → Entry → List Entry
table_with es t e = tabulation 32 (λ i. pick (eqb i t) e (entry_of es i))

-- the table without the entries of a set of tags
unfoldable pub table_without : List Entry → ℕ → List Entry
table_without es set = tabulation 32 (λ i. pick (bit_in 32 set i) zero_entry (entry_of es i))
