-- What checks of scripts have found: how it adds up, the status that it comes to, and the last line.
use Rattle.std.specs.Prelude.{ℕ, ◌+◌, ◌-◌, ◌^◌, ◌&&◌, eqb, leb, min, Bool, List, [], ◌++◌, decimal, codes}
use Rattle.std.specs.Str.{bytes_eq}
use Rattle.bits.specs.Pick.{pick}
use Rattle.call_scripts.specs.declared.found.Found.{Found}

-- numbers stay at the last that there is
abbrev pub sum_of : ℕ → ℕ → ℕ
sum_of a b = min (a + b) (2 ^ 64 - 1)

-- before the first line of the first script
abbrev pub nothing_found : Found
nothing_found = record { asked = 0; differing = 0; faults = 0; unread = 0 }

-- of a script that cannot be opened or read
abbrev pub one_unread : Found
one_unread = record nothing_found { unread = 1 }

-- what two come to together
abbrev pub both : Found → Found → Found
both a b = record { asked = sum_of a.asked b.asked; differing = sum_of a.differing b.differing; faults = sum_of a.faults b.faults; unread = sum_of a.unread b.unread }

-- one line more that says what it is to print, and may differ
abbrev pub found_in : Found → List ℕ → List ℕ → Found
found_in found wanted printed = record found { asked = sum_of found.asked 1; differing = pick (bytes_eq wanted printed) found.differing (sum_of found.differing 1) }

-- what may be a fault
abbrev pub at_fault : Found → Bool → Found
at_fault found fault = record found { faults = pick fault (sum_of found.faults 1) found.faults }

-- no line says what it is to print
abbrev pub is_silent : Found → Bool
is_silent found = eqb found.asked 0

-- all lines that say what they are to print print it, and none is at fault
abbrev pub all_right : Found → Bool
all_right found = eqb found.differing 0 && eqb found.faults 0

-- the exit status: 3 a script is unread, 2 no line says what it is to print, 1 a line differs or is at fault; the greatest that holds, else 0 [script-status]
abbrev pub status_of : Found → ℕ
status_of found = pick (eqb found.unread 0) (pick (is_silent found) 2 (pick (all_right found) 0 1)) 3

-- how many faults there are, if there is one
abbrev pub faults_text : ℕ → List ℕ
faults_text faults = pick (eqb faults 0) [] (codes ", " ++ decimal faults ++ codes " faults")

-- how many lines say what they are to print, and how many of them differ
unfoldable pub lines_text : Found → List ℕ
lines_text found = decimal found.asked ++ codes " lines asked for, " ++ decimal found.differing ++ codes " differ"

-- all these numbers [script-files]
unfoldable pub numbers_text : Found → List ℕ
numbers_text found = lines_text found ++ faults_text found.faults ++ codes "\n"

-- the last line, which tells how all scripts went: none with another status than 0 and 1 [script-files]
unfoldable pub last_line : Found → List ℕ
last_line found = pick (leb (status_of found) 1) (numbers_text found) []
