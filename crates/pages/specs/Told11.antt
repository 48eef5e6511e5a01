-- What the entries of a page 11h tell of a counter's number.
use Rattle.std.specs.Prelude.{List, [], ◌∷◌, ℕ, ◌+◌, ◌*◌, filter, flat_map}
use Rattle.bits.specs.Little.{le_at}
use Rattle.pages.specs.Entries.{CounterEntry, width_of, entry_asked, entries}

-- the value behind an entry's identifier, and how many bytes it has [widths]
abbrev pub entry_told : List ℕ → CounterEntry → List ℕ
entry_told page e = le_at page (e.place + 2) (2 * width_of e.id) ∷ (2 * width_of e.id) ∷ []

-- of every entry that has the number; of none, none [absent] [answer-values]
abbrev pub number_told : List ℕ → ℕ → List ℕ
number_told page asked = flat_map (entry_told page) (filter (entry_asked asked) (entries page))
