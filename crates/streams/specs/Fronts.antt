-- What is written of a text, and what is read into a buffer.
use Rattle.std.specs.Prelude.{ℕ, ◌<◌, ◌≤◌, List, [], ◌∷◌, length, take, Option, Some, None}
use Rattle.std.specs.Io.KnownBytes.{Appends, Consumes, IsAtEnd}

-- a front of the text was written, and not all of it [event-lost]
abbrev pub AppendsFront : Option (List ℕ) → Option (List ℕ) → List ℕ → Type 0
AppendsFront old new text = (k : ℕ) × (k < length text) × Appends old new (take k text)

-- a front of the text was written, it may be all of it [event-lost]
abbrev pub AppendsSome : Option (List ℕ) → Option (List ℕ) → List ℕ → Type 0
AppendsSome old new text = (k : ℕ) × Appends old new (take k text)

-- the buffer holds n bytes that were read, and fewer than there is room for only at the reader's end [event-reads] [fill-once]
pub record Filled (old new : Option (List ℕ)) (n : ℕ) (buffer : List ℕ) : Type 0 where
  pub most : n ≤ length buffer
  pub bytes : Consumes old new (take n buffer)
  pub end : n < length buffer → IsAtEnd new

-- a read failed before the buffer was full: it holds n bytes that were read [fill-once]
pub record StuckBefore (old new : Option (List ℕ)) (buffer : List ℕ) : Type 0 where
  pub n : ℕ
  pub short : n < length buffer
  pub bytes : Consumes old new (take n buffer)

-- one byte was read, or the input is at its end [fill-once]
abbrev pub ReadByte : Option (List ℕ) → Option ℕ → Option (List ℕ) → Type 0
ReadByte old (Some byte) new = Consumes old new (byte ∷ [])
ReadByte old None new = Consumes old new [] × IsAtEnd new
