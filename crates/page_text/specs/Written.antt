-- What of an answer's text is written.
use Rattle.std.specs.Prelude.{ℕ, List, Option}
use Rattle.std.specs.Io.KnownBytes.{Appends}
use Rattle.streams.specs.Fronts.{AppendsFront}
use Rattle.page_text.specs.declared.answers.Answer.{Answer}

-- all of a text that the answer may have (Owed) is written
abbrev pub Tells : (Answer → List ℕ → Type 0) → Option (List ℕ) → Option (List ℕ) → Answer → Type 0
Tells Owed old new answer = (text : List ℕ) × Owed answer text × Appends old new text

-- a front of a text that some answer may have is written
abbrev pub TellsFront : (Answer → List ℕ → Type 0) → Option (List ℕ) → Option (List ℕ) → Type 0
TellsFront Owed old new = (answer : Answer) × (text : List ℕ) × Owed answer text × AppendsFront old new text
