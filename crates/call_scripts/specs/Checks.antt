-- What a check of a script finds and writes, for each way in which it may end.
use Rattle.std.specs.Prelude.{◌≡◌, ℕ, List, [], ◌∷◌, ◌++◌, Option, Some, None, Result, Ok, Err, IfSome}
use Rattle.std.specs.Str.{bytes_eq}
use Rattle.std.specs.Io.KnownBytes.{Appends, Keeps}
use Rattle.bits.specs.Pick.{pick}
use Rattle.events.specs.declared.errors.RunError.{RunError}
use Rattle.events.specs.declared.errors.RunError.TheVariants.{Input}
use Rattle.events.specs.Output.{Loses}
use Rattle.call_scripts.specs.Answers.{what_text}
use Rattle.call_scripts.specs.Bench.{Kept}
use Rattle.call_scripts.specs.Found.{sum_of, nothing_found, found_in, at_fault, is_silent}
use Rattle.call_scripts.specs.Lines.{line_text, after_line}
use Rattle.call_scripts.specs.Parts.{lines_of}
use Rattle.call_scripts.specs.Scripts.{fresh}
use Rattle.call_scripts.specs.Told.{one_line, told, fault_text, unasked_said, hidden_said, silent_text}
use Rattle.call_scripts.specs.Wanted.{wanted, trimmed, is_hidden}
use Rattle.call_scripts.specs.declared.found.Found.{Found}
use Rattle.call_scripts.specs.declared.checking.Check.{Check}

-- what a line prints, as it is held against what it is to print
abbrev pub printed_of : List ℕ → List ℕ
printed_of text = one_line (trimmed text)

-- what is told of a line that prints a text, by what it is to print: one that does not say it may print anything but `what?` [script-check]
abbrev pub told_by : List ℕ → ℕ → Option (List ℕ) → List ℕ → List ℕ
told_by name number None text = pick (bytes_eq text what_text) (fault_text name number unasked_said) []
told_by name number (Some wanted) text = told name number wanted (printed_of text)

-- and what is found behind it
abbrev pub found_by : Found → Option (List ℕ) → List ℕ → Found
found_by found None text = at_fault found (bytes_eq text what_text)
found_by found (Some wanted) text = found_in found wanted (printed_of text)

-- what is told of its comment [script-check]
abbrev pub comment_told : List ℕ → ℕ → List ℕ → List ℕ
comment_told name number line = pick (is_hidden line) (fault_text name number hidden_said) []

-- all that is told of a line: it prints what it prints in a run
unfoldable pub line_told : List ℕ → Kept → Check → List ℕ → List ℕ
line_told name k check line = told_by name (sum_of check.number 1) (wanted line) (line_text k line) ++ comment_told name (sum_of check.number 1) line

-- what is known behind the line
unfoldable pub line_check : Kept → Check → List ℕ → Check
line_check k check line = record { number = sum_of check.number 1; found = at_fault (found_by check.found (wanted line) (line_text k line)) (is_hidden line) }

-- what is told of lines, each in what those before it left [script-check]
unfoldable pub differences : List ℕ → Kept → Check → List (List ℕ) → List ℕ
differences name k check [] = []
differences name k check (line ∷ lines) = line_told name k check line ++ differences name (after_line k line) (line_check k check line) lines

-- what is known behind them [script-check]
unfoldable pub found_of : Kept → Check → List (List ℕ) → Check
found_of k check [] = check
found_of k check (line ∷ lines) = found_of (after_line k line) (line_check k check line) lines

-- before the first line
abbrev pub unchecked : Check
unchecked = record { number = 0; found = nothing_found }

-- what is told of the lines of a script
abbrev pub lines_told : List ℕ → Kept → List ℕ → List ℕ
lines_told name k script = differences name k unchecked (lines_of script)

-- and what is found in them
abbrev pub lines_found : Kept → List ℕ → Found
lines_found k script = (found_of k unchecked (lines_of script)).found

-- all of that is written, and found; or text is lost
abbrev pub CheckedLines : List ℕ → Kept → List ℕ → (old new : Option (List ℕ)) → Result Found RunError → Type 0
CheckedLines name k script old new (Ok found) = Appends old new (lines_told name k script) × (found ≡ lines_found k script)
CheckedLines name k script old new (Err e) = Loses e old new (lines_told name k script)

-- behind them it is told that none of them says what it is to print, which is a fault of the script [script-check]
abbrev pub silent_told : List ℕ → Found → List ℕ
silent_told name found = pick (is_silent found) (silent_text name) []

abbrev pub silent_found : Found → Found
silent_found found = at_fault found (is_silent found)

-- what a check writes of a script
abbrev pub check_text : List ℕ → Kept → List ℕ → List ℕ
check_text name k script = lines_told name k script ++ silent_told name (lines_found k script)

-- and what it has found
abbrev pub check_found : Kept → List ℕ → Found
check_found k script = silent_found (lines_found k script)

-- all is written, and found; or text is lost
abbrev pub Checked : List ℕ → Kept → List ℕ → (old new : Option (List ℕ)) → Result Found RunError → Type 0
Checked name k script old new (Ok found) = Appends old new (check_text name k script) × (found ≡ check_found k script)
Checked name k script old new (Err e) = Loses e old new (check_text name k script)

-- a script is all that a reader had left, where that is known
abbrev pub IsAllOf : Option (List ℕ) → List ℕ → Type 0
IsAllOf known script = IfSome known (λ input. script ≡ input)

-- a check, from zeros on, of a script that may have been read (Read); of one that could not be read nothing is written [script-check]
abbrev pub HasChecked : List ℕ → (Read : List ℕ → Type 0) → (old new : Option (List ℕ)) → Result Found RunError → Type 0
HasChecked name Read old new (Err (Input e)) = Keeps old new
HasChecked name Read old new result = (script : List ℕ) × Read script × Checked name (fresh 33554432) script old new result

-- one script has one text, and one thing is found in it [script-check]
abbrev pub OneFound : Type 0
OneFound = (name script old : List ℕ) (new new' : Option (List ℕ)) (found found' : Found) → HasChecked name (IsAllOf (Some script)) (Some old) new (Ok found) → HasChecked name (IsAllOf (Some script)) (Some old) new' (Ok found') → (new ≡ new') × (found ≡ found')
