-- What `set` changes.
use Rattle.std.specs.Prelude.{ℕ, ◌+◌, ◌-◌, eqb, List, length, [], ◌∷◌, codes, slice_get, Option, Some, None}
use Rattle.bits.specs.Pick.{pick}
use Rattle.device_state.specs.declared.shapes.Echo.{Echo}
use Rattle.device_state.specs.declared.shapes.Entry.{Entry}
use Rattle.device_state.specs.declared.shapes.ErrorRecord.{ErrorRecord}
use Rattle.call_scripts.specs.Steps.{◌>>=◌}
use Rattle.call_scripts.specs.Words.{long_at, short_at, byte_at, flag_at, number_at}
use Rattle.call_scripts.specs.Names.{named_in}
use Rattle.call_scripts.specs.declared.changes.Field.{Field}
use Rattle.call_scripts.specs.declared.changes.Field as field
use Rattle.call_scripts.specs.declared.changes.Change.{Change}
use Rattle.call_scripts.specs.declared.changes.Change as change

-- each field by its word
abbrev pub fields : List (List ℕ × Field)
fields =
    (codes "depth", field.TheVariants.Depth) ∷
    (codes "capacity", field.TheVariants.Capacity) ∷
    (codes "mask", field.TheVariants.Mask) ∷
    (codes "outstanding", field.TheVariants.Outstanding) ∷
    (codes "phase", field.TheVariants.Phase) ∷
    (codes "halted", field.TheVariants.Halted) ∷
    (codes "held", field.TheVariants.Held) ∷
    (codes "value", field.TheVariants.Value) ∷
    (codes "entry", field.TheVariants.Entry) ∷
    (codes "record", field.TheVariants.Record) ∷
    []

-- what a word names
abbrev pub field_of : List ℕ → Option Field
field_of word = named_in fields word

-- how many words a line has that sets it
abbrev pub field_words : Field → ℕ
field_words field.TheVariants.Value = 4
field_words field.TheVariants.Entry = 18
field_words field.TheVariants.Record = 15
field_words f = 3

-- bytes 4 to 10, 12 and 13 of a command, from a place on
abbrev pub echo_at : List (List ℕ) → ℕ → Option Echo
echo_at words place = do
  b4 ← byte_at words place
  b5 ← byte_at words (place + 1)
  b6 ← byte_at words (place + 2)
  b7 ← byte_at words (place + 3)
  b8 ← byte_at words (place + 4)
  b9 ← byte_at words (place + 5)
  b10 ← byte_at words (place + 6)
  b12 ← byte_at words (place + 7)
  b13 ← byte_at words (place + 8)
  Some (record { b4 = b4; b5 = b5; b6 = b6; b7 = b7; b8 = b8; b9 = b9; b10 = b10; b12 = b12; b13 = b13 })

-- "set entry TAG WRITE FIRST COUNT MOVED FEATURES HIGH B4 .."
abbrev pub entry_at : List (List ℕ) → Option Entry
entry_at words = do
  write ← flag_at words 3
  first ← long_at words 4
  count ← long_at words 5
  moved ← long_at words 6
  features ← byte_at words 7
  high ← byte_at words 8
  echo ← echo_at words 9
  Some (record { write = write; first = first; count = count; moved = moved; features = features; features_high = high; echo = echo })

-- "set record SET NQ TAG ERROR B4 .."
abbrev pub record_at : List (List ℕ) → Option ErrorRecord
record_at words = do
  set ← flag_at words 2
  nq ← flag_at words 3
  tag ← byte_at words 4
  error ← byte_at words 5
  echo ← echo_at words 6
  Some (record { set = set; nq = nq; tag = tag; error = error; echo = echo })

-- the open phase as its tag and one, 0 where none is open
abbrev pub phase_of : ℕ → Option ℕ
phase_of n = pick (eqb n 0) None (Some (n - 1))

-- `set value ROW N`: of the sixteen rows
abbrev pub value_at : List (List ℕ) → Option Change
value_at words = do
  row ← number_at words 2 15
  value ← long_at words 3
  Some (change.TheVariants.Value row value)

-- what the words of a field's line change
abbrev pub change_at : List (List ℕ) → Field → Option Change
change_at words field.TheVariants.Depth = long_at words 2 >>= (λ n. Some (change.TheVariants.Depth n))
change_at words field.TheVariants.Capacity = long_at words 2 >>= (λ n. Some (change.TheVariants.Capacity n))
change_at words field.TheVariants.Mask = short_at words 2 >>= (λ n. Some (change.TheVariants.Mask n))
change_at words field.TheVariants.Outstanding = long_at words 2 >>= (λ n. Some (change.TheVariants.Outstanding n))
change_at words field.TheVariants.Phase = long_at words 2 >>= (λ n. Some (change.TheVariants.Phase (phase_of n)))
change_at words field.TheVariants.Halted = flag_at words 2 >>= (λ b. Some (change.TheVariants.Halted b))
change_at words field.TheVariants.Held = flag_at words 2 >>= (λ b. Some (change.TheVariants.Held b))
change_at words field.TheVariants.Value = value_at words
change_at words field.TheVariants.Entry = do
  tag ← number_at words 2 31
  entry ← entry_at words
  Some (change.TheVariants.Entry tag entry)
change_at words field.TheVariants.Record = record_at words >>= (λ e. Some (change.TheVariants.Record e))

-- what the words of a line change, of which the second names the field [script-line]
abbrev pub change_of : List (List ℕ) → Option Change
change_of words = do
  word ← slice_get words 1
  field ← field_of word
  pick (eqb (length words) (field_words field)) (change_at words field) None
