-- Named scripts: what comes of each, and what is written, said and found of all.
use Rattle.std.specs.Prelude.{◌≡◌, ℕ, List, [], ◌++◌, All, flat_map, fold, map, codes, IfSome, Option, Some, Result, Ok, Err}
use Rattle.call_scripts.specs.Checks.{check_text, check_found}
use Rattle.call_scripts.specs.Found.{nothing_found, one_unread, both}
use Rattle.call_scripts.specs.Scripts.{fresh}
use Rattle.call_scripts.specs.Told.{labelled}
use Rattle.call_scripts.specs.declared.found.Found.{Found}

-- a script that was named: all that was read of it, or why it is unread
pub record Named : Type 0 where
  pub name : List ℕ
  pub came : Result (List ℕ) (List ℕ)

-- what is read by a name is what is known to stand there, if anything is
abbrev pub MayHold : Option (Option (List ℕ)) → List ℕ → Type 0
MayHold held script = IfSome held (λ bytes. bytes ≡ Some script)

-- that, or the script is unread: it cannot be opened, or a read failed
abbrev pub MayCome : Option (Option (List ℕ)) → Result (List ℕ) (List ℕ) → Type 0
MayCome held (Ok script) = MayHold held script
MayCome held (Err why) = Unit

-- what is written of a script [script-files]
abbrev pub named_text : List ℕ → Result (List ℕ) (List ℕ) → List ℕ
named_text name (Ok script) = check_text name (fresh 33554432) script
named_text name (Err why) = []

-- a line of which program and of which file it is, and why the file is unread
unfoldable pub cause_text : List ℕ → List ℕ → List ℕ → List ℕ
cause_text program name why = program ++ name ++ labelled (codes ": input failed: ") why

-- the line of a script that is unread
abbrev pub unread_text : List ℕ → List ℕ → List ℕ
unread_text name why = cause_text (codes "run_calls: ") name why

-- what is said of a script on standard error [script-files]
abbrev pub named_said : List ℕ → Result (List ℕ) (List ℕ) → List ℕ
named_said name (Ok script) = []
named_said name (Err why) = unread_text name why

-- what is found in it [script-files]
abbrev pub named_found : Result (List ℕ) (List ℕ) → Found
named_found (Ok script) = check_found (fresh 33554432) script
named_found (Err why) = one_unread

-- so of all of them, in their order [script-files]
abbrev pub all_text : List Named → List ℕ
all_text named = flat_map (λ n. named_text n.name n.came) named

abbrev pub all_said : List Named → List ℕ
all_said named = flat_map (λ n. named_said n.name n.came) named

abbrev pub all_found : List Named → Found
all_found named = fold (λ found n. both found (named_found n.came)) nothing_found named

-- so many of the names were looked at in their order, and the others not: of each came what may come by what is known of it (holds)
pub record LookedAt (holds : List ℕ → Option (Option (List ℕ))) (names : List (List ℕ)) (named : List Named) (others : List (List ℕ)) : Type 0 where
  pub order : names ≡ map (λ n. n.name) named ++ others
  pub each : All (λ n. MayCome (holds n.name) n.came) named
