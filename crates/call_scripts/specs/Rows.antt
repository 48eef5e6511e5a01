-- A state in lines of text.
use Rattle.std.specs.Prelude.{ℕ, false, List, [], ◌∷◌, ◌++◌, ◌+◌, flat_map, codes, Option, Some, None}
use Rattle.std.specs.Fmt.{radix_digits}
use Rattle.bits.specs.Answer.{bit_number}
use Rattle.bits.specs.Pick.{pick}
use Rattle.device_state.specs.Contradictory.{idle_bad}
use Rattle.device_state.specs.declared.shapes.Echo.{Echo}
use Rattle.device_state.specs.declared.shapes.Entry.{Entry}
use Rattle.device_state.specs.declared.shapes.ErrorRecord.{ErrorRecord}
use Rattle.device_state.specs.declared.shapes.Settings.{Settings}
use Rattle.device_state.specs.declared.shapes.Status.{Status}
use Rattle.device.specs.declared.state.Device.{Device}

-- a number in hex, in lower case and with no zeros in front
abbrev pub hex_text : ℕ → List ℕ
hex_text n = radix_digits 16 false n

-- numbers, each behind a blank
unfoldable pub numbers_text : List ℕ → List ℕ
numbers_text numbers = flat_map (λ n. 32 ∷ hex_text n) numbers

-- a line of a word and numbers
abbrev pub row_text : List ℕ → List ℕ → List ℕ
row_text word numbers = word ++ numbers_text numbers ++ 10 ∷ []

-- depth, capacity and mask
unfoldable pub settings_text : Settings → List ℕ
settings_text s = row_text (codes "settings") (s.depth ∷ s.capacity ∷ s.mask ∷ [])

-- the open phase as its tag and one, 0 where none is open
abbrev pub phase_number : Option ℕ → ℕ
phase_number (Some tag) = tag + 1
phase_number None = 0

-- the tags outstanding, the open phase, halted, held
unfoldable pub status_text : Status → List ℕ
status_text s = row_text (codes "status") (s.outstanding ∷ phase_number s.phase ∷ bit_number s.halted ∷ bit_number s.held ∷ [])

-- bytes 4 to 10, 12 and 13 of a command
abbrev pub echo_numbers : Echo → List ℕ
echo_numbers e = e.b4 ∷ e.b5 ∷ e.b6 ∷ e.b7 ∷ e.b8 ∷ e.b9 ∷ e.b10 ∷ e.b12 ∷ e.b13 ∷ []

-- the entry of a tag, as `set entry` is given it
unfoldable pub entry_text : ℕ → Entry → List ℕ
entry_text tag e = codes "entry" ++ numbers_text (tag ∷ bit_number e.write ∷ e.first ∷ e.count ∷ e.moved ∷ e.features ∷ e.features_high ∷ []) ++ numbers_text (echo_numbers e.echo) ++ 10 ∷ []

-- the entry of a tag, if it is not all zeros
abbrev pub told_text : ℕ → Entry → List ℕ
told_text tag e = pick (idle_bad e) (entry_text tag e) []

-- the entries from a tag on [script-show]
unfoldable pub entries_text : ℕ → List Entry → List ℕ
entries_text tag [] = []
entries_text tag (e ∷ es) = told_text tag e ++ entries_text (tag + 1) es

-- the error record, as `set record` is given it
unfoldable pub record_text : ErrorRecord → List ℕ
record_text r = codes "record" ++ numbers_text (bit_number r.set ∷ bit_number r.nq ∷ r.tag ∷ r.error ∷ []) ++ numbers_text (echo_numbers r.echo) ++ 10 ∷ []

-- the sixteen values
unfoldable pub values_text : List ℕ → List ℕ
values_text values = row_text (codes "values") values

-- the whole state, a line a part [script-show]
abbrev pub state_text : Device → List ℕ
state_text d = settings_text d.settings ++ status_text d.status ++ entries_text 0 d.entries ++ record_text d.errors ++ values_text d.values
