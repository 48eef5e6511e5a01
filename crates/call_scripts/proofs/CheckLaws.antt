-- Where a check of a script stands behind the lines that it has run, and how it ends.
use Rattle.std.proofs.Common.{◌≡◌, ℕ, ◌<◌, Bool, true, false, List, [], ◌∷◌, ◌++◌, length, append-nil, append_assoc, Option, Some, None, Result, Ok, Err, IsErr, IsErrAnd, IfSome, refl, sym, subst, ap, ap₂, ◌∙◌, arith}
use Rattle.std.specs.Bool.{◌==◌}
use mathlib.Core.Bool.{false≢true}
use Rattle.std.specs.Io.KnownBytes.{Appends}
use Rattle.std.proofs.KnownBytes.{Appends-nil, Appends-trans}
use Rattle.events.proofs.Fronts.{loses_first, loses_then}
use Rattle.events.specs.Output.{Loses}
use Rattle.events.specs.declared.errors.RunError.{RunError}
use Rattle.events.specs.declared.errors.RunError.TheVariants.{Input, Output, Memory, TooMany}
use Rattle.call_scripts.specs.Bench.{Kept}
use Rattle.call_scripts.specs.Lines.{after_line}
use Rattle.call_scripts.specs.Parts.{before, behind, lines_of}
use Rattle.call_scripts.specs.Scripts.{fresh}
use Rattle.call_scripts.specs.Checks.{line_told, line_check, differences, found_of, unchecked, lines_told, CheckedLines, silent_told, Checked, IsAllOf, HasChecked}
use Rattle.call_scripts.specs.declared.found.Found.{Found}
use Rattle.call_scripts.specs.declared.checking.Check.{Check}
use Rattle.call_scripts.proofs.PartLaws.{lines_first}

-- lines are left, or none
pub some_left : (empty : Bool) (rest : List ℕ) → empty ≡ (length rest == 0) → empty ≡ false → 0 < length rest
some_left empty [] e f = absurd (false≢true (sym f ∙ e))
some_left empty (c ∷ cs) e f = omega arith

pub none_left : (empty : Bool) (rest : List ℕ) → empty ≡ (length rest == 0) → empty ≡ true → rest ≡ []
none_left empty [] e t = refl
none_left empty (c ∷ cs) e t = grind (arith, e, t)

-- so much is written, and the bench and what is found are left, from which the rest goes on
pub record Stands (name : List ℕ) (first : Kept) (script : List ℕ) (old new : Option (List ℕ)) (k : Kept) (check : Check) (rest : List ℕ) : Type 0 where
  pub done : List ℕ
  pub written : Appends old new done
  pub text : lines_told name first script ≡ done ++ differences name k check (lines_of rest)
  pub found : found_of first unchecked (lines_of script) ≡ found_of k check (lines_of rest)

-- before the first line
pub none_checked : (name : List ℕ) (first : Kept) (script : List ℕ) (old : Option (List ℕ)) → Stands name first script old old first unchecked script
none_checked name first script old = record { done = []; written = Appends-nil old; text = refl; found = refl }

module _ {name : List ℕ} {first : Kept} {script : List ℕ} {old new : Option (List ℕ)} {k : Kept} {check : Check} {rest : List ℕ} (p : Stands name first script old new k check rest) where
  left : (line others : List ℕ) → 0 < length rest → line ≡ before 10 rest → others ≡ behind 10 rest → lines_of rest ≡ line ∷ lines_of others
  left line others h el eo = lines_first rest h ∙ sym (ap₂ (λ (a b : List ℕ). a ∷ lines_of b) el eo)

  text_on : (line others : List ℕ) → 0 < length rest → line ≡ before 10 rest → others ≡ behind 10 rest
      → lines_told name first script ≡ p.done ++ (line_told name k check line ++ differences name (after_line k line) (line_check k check line) (lines_of others))
  unfolding differences
  text_on line others h el eo = p.text ∙ ap (λ (ls : List (List ℕ)). p.done ++ differences name k check ls) (left line others h el eo)

  found_on : (line others : List ℕ) → 0 < length rest → line ≡ before 10 rest → others ≡ behind 10 rest
      → found_of first unchecked (lines_of script) ≡ found_of (after_line k line) (line_check k check line) (lines_of others)
  unfolding found_of
  found_on line others h el eo = p.found ∙ ap (λ (ls : List (List ℕ)). found_of k check ls) (left line others h el eo)

  -- one line more
  pub line_more : {new' : Option (List ℕ)} {k' : Kept} {check' : Check} (line others : List ℕ) → 0 < length rest → line ≡ before 10 rest → others ≡ behind 10 rest → k' ≡ after_line k line → check' ≡ line_check k check line
      → Appends new new' (line_told name k check line) → Stands name first script old new' k' check' others
  line_more {new' = new'} line others h el eo ek ec a = rw (ek, ec) (record {
    done = p.done ++ line_told name k check line;
    written = Appends-trans old new new' p.done (line_told name k check line) p.written a;
    text = text_on line others h el eo ∙ sym (append_assoc p.done (line_told name k check line) (differences name (after_line k line) (line_check k check line) (lines_of others)));
    found = found_on line others h el eo;
  })

  -- what is told of it is lost
  pub line_lost : (new' : Option (List ℕ)) (e : RunError) (line others : List ℕ) → 0 < length rest → line ≡ before 10 rest → others ≡ behind 10 rest → Loses e new new' (line_told name k check line) → Loses e old new' (lines_told name first script)
  line_lost new' e line others h el eo l = subst (Loses e old new') (sym (text_on line others h el eo)) (loses_then e old new new' p.done _ p.written (loses_first e new new' (line_told name k check line) _ l))

  -- there are no more
  pub all_checked : rest ≡ [] → CheckedLines name first script old new (Ok check.found)
  unfolding differences found_of lines_of
  all_checked e = (
    subst (Appends old new) (sym (p.text ∙ ap (λ (l : List ℕ). p.done ++ differences name k check (lines_of l)) e ∙ append-nil p.done)) p.written,
    sym (ap (λ (c : Check). c.found) (p.found ∙ ap (λ (l : List ℕ). found_of k check (lines_of l)) e)),
  )

-- an error that is handed on
pub check_lost : (name : List ℕ) (first : Kept) (script : List ℕ) (old new : Option (List ℕ)) (r : Result Found RunError) (e : RunError) → IsErr r → IsErrAnd r (λ x. x ≡ e) → Loses e old new (lines_told name first script)
    → CheckedLines name first script old new r
check_lost name first script old new (Ok f) e i h l = absurd (false≢true i)
check_lost name first script old new (Err x) e i h l = subst (λ (y : RunError). Loses y old new (lines_told name first script)) (sym h) l

-- the lines are lost, or what is told behind them
pub lines_lost : (name : List ℕ) (k : Kept) (script : List ℕ) (old new : Option (List ℕ)) (r : Result Found RunError) (e : RunError) → IsErr r → IsErrAnd r (λ x. x ≡ e) → Loses e old new (lines_told name k script)
    → Checked name k script old new r
lines_lost name k script old new (Ok f) e i h l = absurd (false≢true i)
lines_lost name k script old new (Err x) e i h l = loses_first x old new (lines_told name k script) _ (subst (λ (y : RunError). Loses y old new (lines_told name k script)) (sym h) l)

pub silent_lost : (name : List ℕ) (k : Kept) (script : List ℕ) (old new new' : Option (List ℕ)) (found : Found) (r : Result Found RunError) (e : RunError) → IsErr r → IsErrAnd r (λ x. x ≡ e) → CheckedLines name k script old new (Ok found)
    → Loses e new new' (silent_told name found) → Checked name k script old new' r
silent_lost name k script old new new' found (Ok f) e i h c l = absurd (false≢true i)
silent_lost name k script old new new' found (Err x) e i h c l =
    loses_then x old new new' (lines_told name k script) _ c.0 (subst (λ (f : Found). Loses x new new' (silent_told name f)) c.1 (subst (λ (y : RunError). Loses y new new' (silent_told name found)) (sym h) l))

-- nothing is written where there is no memory for a bench
pub check_none : (name : List ℕ) (first : Kept) (script : List ℕ) (old : Option (List ℕ)) → Checked name first script old old (Err Memory)
check_none name first script old = (0, Appends-nil old)

-- a script is what was read, where that is known
pub known_as : (known : Option (List ℕ)) (script bytes : List ℕ) → script ≡ bytes → IfSome known (λ input. bytes ≡ input) → IsAllOf known script
known_as None script bytes e k = tt
known_as (Some input) script bytes e k = e ∙ k

-- the check is that of a script that may have been read
pub check_read : (name : List ℕ) (Read : List ℕ → Type 0) (old new : Option (List ℕ)) (script : List ℕ) (r : Result Found RunError) → Read script → Checked name (fresh 33554432) script old new r → HasChecked name Read old new r
check_read name Read old new script (Ok f) e c = (script, e, c)
check_read name Read old new script (Err (Input x)) e c = absurd c
check_read name Read old new script (Err (Output x)) e c = (script, e, c)
check_read name Read old new script (Err Memory) e c = (script, e, c)
check_read name Read old new script (Err TooMany) e c = (script, e, c)

-- what may have been read by one account may have been by another
pub check_by : (name : List ℕ) (Read Read' : List ℕ → Type 0) (old new : Option (List ℕ)) (r : Result Found RunError) → ((script : List ℕ) → Read script → Read' script) → HasChecked name Read old new r → HasChecked name Read' old new r
check_by name Read Read' old new (Ok f) h c = (c.0, h c.0 c.1, c.2)
check_by name Read Read' old new (Err (Input x)) h c = c
check_by name Read Read' old new (Err (Output x)) h c = (c.0, h c.0 c.1, c.2)
check_by name Read Read' old new (Err Memory) h c = (c.0, h c.0 c.1, c.2)
check_by name Read Read' old new (Err TooMany) h c = (c.0, h c.0 c.1, c.2)
