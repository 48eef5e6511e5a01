-- What a run of a script writes for what it reads, for each way in which it may end.
use Rattle.std.specs.Prelude.{◌≡◌, ℕ, eqb, List, [], ◌∷◌, ◌++◌, ◌⊎◌, length, replicate, codes, Option, Some, None, Result, Ok, Err, IfSome}
use Rattle.std.specs.Io.KnownBytes.{Appends, Consumes}
use Rattle.bits.specs.Pick.{pick}
use Rattle.streams.specs.Fronts.{AppendsFront, AppendsSome}
use Rattle.device.specs.Device.{zero_device}
use Rattle.events.specs.declared.ended.Ended.{Ended}
use Rattle.events.specs.Output.{IsOutput, Loses}
use Rattle.events.specs.Runs.{Said, said_of}
use Rattle.events.specs.declared.errors.RunError.{RunError}
use Rattle.events.specs.declared.errors.RunError.TheVariants.{Input, Output, Memory, TooMany}
use Rattle.call_scripts.specs.Bench.{Kept, kept}
use Rattle.call_scripts.specs.Lines.{line_text, after_line, line_with}

-- a byte behind a line so far: LF ends it, and then it is printed what it asks for
abbrev pub byte_text : Kept → List ℕ → ℕ → List ℕ
byte_text k line b = pick (eqb b 10) (line_text k line) []

-- and done
abbrev pub byte_bench : Kept → List ℕ → ℕ → Kept
byte_bench k line b = pick (eqb b 10) (after_line k line) k

-- and the next line begins; any other byte is one more of the line
abbrev pub byte_line : List ℕ → ℕ → List ℕ
byte_line line b = pick (eqb b 10) [] (line_with line b)

-- what is printed of what is read: each line's text, in what the lines before it left; and of a line that does not end, what `last` says [script-run]
unfoldable pub text_from : (Kept → List ℕ → List ℕ) → Kept → List ℕ → List ℕ → List ℕ
text_from last k line [] = last k line
text_from last k line (b ∷ bs) = byte_text k line b ++ text_from last (byte_bench k line b) (byte_line line b) bs

-- a last line without LF is a line, if it has a byte
unfoldable pub ended : Kept → List ℕ → List ℕ
ended k line = pick (eqb (length line) 0) [] (line_text k line)

-- or it is none yet
unfoldable pub unended : Kept → List ℕ → List ℕ
unended k line = []

-- the text of a script that is read to its end
abbrev pub script_text : Kept → List ℕ → List ℕ
script_text k input = text_from ended k [] input

-- and that of its whole lines alone
abbrev pub whole_text : Kept → List ℕ → List ℕ
whole_text k input = text_from unended k [] input

-- the line of a run that ends before its input
abbrev pub stop_text : List ℕ
stop_text = codes "stop\n"

-- the run is over before the input: what was read is known, and its whole lines' text and `stop` are written [script-broken]
abbrev pub Broken : Kept → (known known' old new : Option (List ℕ)) → Type 0
Broken k known known' old new = (part : List ℕ) × Consumes known known' part × Appends old new (whole_text k part ++ stop_text)

-- a run stopped before its input: of the text of some beginning of the input it is known what was written (W) [script-broken]
abbrev pub WroteSoFar : (List ℕ → List ℕ) → (known : Option (List ℕ)) → (List ℕ → Type 0) → Type 0
WroteSoFar text known W = (part : List ℕ) × IfSome known (λ input. (rest : List ℕ) × (input ≡ part ++ rest)) × W (text part)

-- what is told of a run by its result: it ran to the input's end; a read failed; a write failed, of its text, or of its whole lines' and `stop`; there is no memory for a line; the last number of bytes is used up [script-run] [script-broken]
abbrev pub Ran : Kept → (known known' old new : Option (List ℕ)) → Result Unit RunError → Type 0
Ran k known known' old new (Ok u) = IfSome known (λ input. Appends old new (script_text k input))
Ran k known known' old new (Err (Input e)) = Broken k known known' old new
Ran k known known' old new (Err (Output e)) = WroteSoFar (script_text k) known (AppendsFront old new) ⊎ WroteSoFar (λ part. whole_text k part ++ stop_text) known (AppendsFront old new)
Ran k known known' old new (Err Memory) = WroteSoFar (script_text k) known (AppendsSome old new)
Ran k known known' old new (Err TooMany) = Broken k known known' old new

-- a last line's text is written, or lost
abbrev pub Finishes : Kept → List ℕ → (old new : Option (List ℕ)) → Result Unit RunError → Type 0
Finishes k line old new (Ok u) = Appends old new (ended k line)
Finishes k line old new (Err e) = Loses e old new (ended k line)

-- `stop` is written, and the run ends so; or a write failed, and a front of it is
abbrev pub Stops : RunError → (old new : Option (List ℕ)) → Result Unit RunError → Type 0
Stops end old new (Ok u) = ⊥
Stops end old new (Err e) = ((e ≡ end) × Appends old new stop_text) ⊎ (IsOutput e × AppendsFront old new stop_text)

-- what a script begins with: a state of zeros, a medium of so many zeros, and nothing said of what is lent
unfoldable pub fresh : ℕ → Kept
fresh size = kept zero_device (replicate size 0) None

-- a run of this input from there, whatever was left of it, and what was said of it [script-broken]
abbrev pub HasRun : (known old new errors errors' : Option (List ℕ)) → Ended → Type 0
HasRun known old new errors errors' ended = (left : Option (List ℕ)) × Ran (fresh 33554432) known left old new ended.run × Said (said_of ended.run) errors errors' ended.said

-- one input has one text: outputs that an end of the input allows are equal [script-run]
abbrev pub OneText : Type 0
OneText = (k : Kept) (input old : List ℕ) (left left' new new' : Option (List ℕ)) → Ran k (Some input) left (Some old) new (Ok tt) → Ran k (Some input) left' (Some old) new' (Ok tt) → new ≡ new'

-- and so are those that a failed read allows, for the same bytes read [script-broken]
abbrev pub OneBroken : Type 0
OneBroken = (k : Kept) (input left old : List ℕ) (new new' : Option (List ℕ)) → Broken k (Some input) (Some left) (Some old) new → Broken k (Some input) (Some left) (Some old) new' → new ≡ new'
