-- What is told of a line that prints something else than it is to, or is at fault.
use Rattle.std.specs.Prelude.{ℕ, eqb, List, [], ◌∷◌, ◌++◌, flat_map, decimal, codes}
use Rattle.std.specs.Str.{bytes_eq}
use Rattle.bits.specs.Pick.{pick}

-- lines stand in one with ` / ` between them
abbrev pub in_line : ℕ → List ℕ
in_line byte = pick (eqb byte 10) (codes " / ") (byte ∷ [])

-- a text in one line [script-check]
unfoldable pub one_line : List ℕ → List ℕ
one_line text = flat_map in_line text

-- where a line stands: the script's name, and its number in it
unfoldable pub place_text : List ℕ → ℕ → List ℕ
place_text name number = name ++ codes ":" ++ decimal number ++ codes ":\n"

-- a line of a label and a text
unfoldable pub labelled : List ℕ → List ℕ → List ℕ
labelled label text = label ++ text ++ 10 ∷ []

-- where the line stands, what it is to print, and what it prints [script-check]
abbrev pub difference_text : List ℕ → ℕ → List ℕ → List ℕ → List ℕ
difference_text name number wanted printed = place_text name number ++ labelled (codes "  asked ") wanted ++ labelled (codes "  got   ") printed

-- of a line that prints what it is to, nothing is told
abbrev pub told : List ℕ → ℕ → List ℕ → List ℕ → List ℕ
told name number wanted printed = pick (bytes_eq wanted printed) [] (difference_text name number wanted printed)

-- where the line stands, and what is wrong with it [script-check]
abbrev pub fault_text : List ℕ → ℕ → List ℕ → List ℕ
fault_text name number said = place_text name number ++ labelled (codes "  fault ") said

-- what it asks for is not held
abbrev pub hidden_said : List ℕ
hidden_said = codes "a -> behind # asks for nothing"

-- it is no line, and does not say that it is to be none
abbrev pub unasked_said : List ℕ
unasked_said = codes "what? is printed, and not asked for"

-- a whole script, and what is wrong with it: no line of it says what it is to print [script-check]
unfoldable pub silent_text : List ℕ → List ℕ
silent_text name = name ++ labelled (codes ":\n  fault ") (codes "no line says what it is to print")
