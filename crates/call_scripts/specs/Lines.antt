-- What a line of a script prints, and what it leaves behind.
use Rattle.std.specs.Prelude.{ℕ, ltb, List, [], ◌∷◌, ◌++◌, length, Option, Some, None}
use Rattle.bits.specs.Pick.{pick}
use Rattle.call_scripts.specs.Answering.{after, answer_of}
use Rattle.call_scripts.specs.Answers.{what_text}
use Rattle.call_scripts.specs.Bench.{Kept}
use Rattle.call_scripts.specs.Commands.{command_of}
use Rattle.call_scripts.specs.declared.commands.Command.{Command}

-- what a line asks for: one of more than 65,536 bytes, nothing that there is
abbrev pub asked_in : List ℕ → Option Command
asked_in line = pick (ltb 65536 (length line)) None (command_of line)

-- what is printed of it
abbrev pub text_by : Kept → Option Command → List ℕ
text_by k (Some command) = answer_of k command
text_by k None = what_text

-- and what it leaves behind
abbrev pub after_by : Kept → Option Command → Kept
after_by k (Some command) = after k command
after_by k None = k

-- what a line prints [script-run]
unfoldable pub line_text : Kept → List ℕ → List ℕ
line_text k line = text_by k (asked_in line)

-- what it leaves behind
unfoldable pub after_line : Kept → List ℕ → Kept
after_line k line = after_by k (asked_in line)

-- a line with one byte more, unless it is too long already
unfoldable pub line_with : List ℕ → ℕ → List ℕ
line_with line byte = pick (ltb 65536 (length line)) line (line ++ byte ∷ [])
