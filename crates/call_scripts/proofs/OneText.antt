-- Of a script two outputs that one ending allows are equal, and what two checks find.
use Rattle.std.proofs.Common.{◌≡◌, ℕ, List, ◌++◌, Option, Some, Ok, refl, sym, ap, ◌∙◌}
use Rattle.std.proofs.lemmas.List.{append_cancel_right}
use Rattle.events.proofs.Cuts.{appended}
use Rattle.call_scripts.specs.Bench.{Kept}
use Rattle.call_scripts.specs.Scripts.{fresh, whole_text, stop_text, Ran, Broken}
use Rattle.call_scripts.specs.Checks.{check_text, check_found, IsAllOf, HasChecked}
use Rattle.call_scripts.specs.declared.found.Found.{Found}

-- the input ended
pub script_once : (k : Kept) (input old : List ℕ) (left left' new new' : Option (List ℕ)) → Ran k (Some input) left (Some old) new (Ok tt) → Ran k (Some input) left' (Some old) new' (Ok tt) → new ≡ new'
script_once k input old left left' new new' a b = appended old _ _ new new' refl a b

-- a read failed
pub broken_once : (k : Kept) (input left old : List ℕ) (new new' : Option (List ℕ)) → Broken k (Some input) (Some left) (Some old) new → Broken k (Some input) (Some left) (Some old) new' → new ≡ new'
broken_once k input left old new new' a b =
    let read = append_cancel_right a.0 b.0 left (sym a.1 ∙ b.1) in
    appended old _ _ new new' (ap (λ (part : List ℕ). whole_text k part ++ stop_text) read) a.2 b.2

-- a check ended
pub check_once : (name script old : List ℕ) (new new' : Option (List ℕ)) (found found' : Found) → HasChecked name (IsAllOf (Some script)) (Some old) new (Ok found) → HasChecked name (IsAllOf (Some script)) (Some old) new' (Ok found') → (new ≡ new') × (found ≡ found')
check_once name script old new new' found found' a b =
    let read = a.1 ∙ sym b.1 in
    (appended old _ _ new new' (ap (λ (s : List ℕ). check_text name (fresh 33554432) s) read) a.2.0 b.2.0, a.2.1 ∙ ap (λ (s : List ℕ). check_found (fresh 33554432) s) read ∙ sym b.2.1)
