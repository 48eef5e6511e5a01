-- What `read` is given.
use Rattle.std.specs.Prelude.{ℕ, List, [], ◌∷◌, length, drop, codes, slice_get, Option, Some, None}
use Rattle.bits.specs.Pick.{pick}
use Rattle.call_scripts.specs.Steps.{◌>>=◌}
use Rattle.call_scripts.specs.Words.{short_at, byte_at, fits}
use Rattle.call_scripts.specs.Names.{named_in}
use Rattle.call_scripts.specs.Bytes.{bytes_of}
use Rattle.call_scripts.specs.declared.readings.Part.{Part}
use Rattle.call_scripts.specs.declared.readings.Part as part
use Rattle.call_scripts.specs.declared.readings.Reading.{Reading}
use Rattle.call_scripts.specs.declared.readings.Reading as reading

-- each part by its word
abbrev pub parts : List (List ℕ × Part)
parts =
    (codes "frame", part.TheVariants.Frame) ∷
    (codes "pieces", part.TheVariants.Pieces) ∷
    (codes "10", part.TheVariants.ErrorPage) ∷
    (codes "11", part.TheVariants.CounterPage) ∷
    (codes "row", part.TheVariants.Row) ∷
    (codes "queued", part.TheVariants.Queued) ∷
    []

-- what a word names
abbrev pub part_of : List ℕ → Option Part
part_of word = named_in parts word

-- how many words a line has that reads it; bytes are in any number of words
abbrev pub part_words : Part → Option ℕ
part_words part.TheVariants.Row = Some 3
part_words part.TheVariants.Queued = Some 5
part_words part.TheVariants.Frame = None
part_words part.TheVariants.Pieces = None
part_words part.TheVariants.ErrorPage = None
part_words part.TheVariants.CounterPage = None

-- "read 11 NUMBER BYTES.."
abbrev pub counter_at : List (List ℕ) → Option Reading
counter_at words = do
  number ← short_at words 2
  page ← bytes_of (drop 3 words)
  Some (reading.TheVariants.Counter number page)

-- "read queued FEATURES HIGH COUNT"
abbrev pub queued_at : List (List ℕ) → Option Reading
queued_at words = do
  features ← byte_at words 2
  high ← byte_at words 3
  count ← short_at words 4
  Some (reading.TheVariants.Queued features high count)

-- what the words of a part's line read
abbrev pub reading_at : List (List ℕ) → Part → Option Reading
reading_at words part.TheVariants.Frame = bytes_of (drop 2 words) >>= (λ bytes. Some (reading.TheVariants.Frame bytes))
reading_at words part.TheVariants.Pieces = bytes_of (drop 2 words) >>= (λ bytes. Some (reading.TheVariants.Pieces bytes))
reading_at words part.TheVariants.ErrorPage = bytes_of (drop 2 words) >>= (λ page. Some (reading.TheVariants.ErrorPage page))
reading_at words part.TheVariants.CounterPage = counter_at words
reading_at words part.TheVariants.Row = short_at words 2 >>= (λ number. Some (reading.TheVariants.Row number))
reading_at words part.TheVariants.Queued = queued_at words

-- what the words of a line read, of which the second names the part [script-line]
abbrev pub reading_of : List (List ℕ) → Option Reading
reading_of words = do
  word ← slice_get words 1
  part ← part_of word
  pick (fits (part_words part) (length words)) (reading_at words part) None
