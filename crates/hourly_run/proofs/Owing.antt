-- What is owed an input, from what was read of it.
use Rattle.std.proofs.Common.{◌≡◌, refl, sym, ◌∙◌, subst, ℕ, ◌-◌, List, [], ◌++◌, length, IfSome, Option, Some, None, Result, Ok, Err, arith}
use Rattle.hourly_table.specs.Samples.{Sampled}
use Rattle.hourly_table.specs.Table.{table, table_size}
use Rattle.hourly_table.specs.declared.reasons.TableRefusal.{TableRefusal}
use Rattle.hourly_table.proofs.Lefts.{left_yes}
use Rattle.hourly_table.proofs.Sizes.{given, size_given}
use Rattle.hourly_run.specs.Faults.{read_failed}
use Rattle.hourly_run.specs.Lines.{lines_of}
use Rattle.hourly_run.specs.Pages.{Shelved}
use Rattle.hourly_run.specs.Blamed.{refusal_said}
use Rattle.hourly_run.specs.Said.{file_said}
use Rattle.hourly_run.specs.Samples.{Told}
use Rattle.hourly_run.specs.declared.answers.Answer.TheVariants as ans
use Rattle.hourly_run.specs.Owed.{Telling, telling, stop_text, told_of, table_within, owed_samples, IsOwed, OwesRead}

-- a table that is given has room in its own size
pub has_room : (samples : List Sampled) (numbers : List ℕ) (room size n : ℕ) (r : TableRefusal) → Ok size ≡ table_size samples numbers room → n ≡ size → Err r ≡ table_size samples numbers n → ⊥
has_room samples numbers room size n r e same f =
    let p = given samples numbers room size e in
    let fits : n - (n - length (table samples numbers)) ≡ n - (n - length (table samples numbers)) = refl in
    let whole = p.whole in
    let g : Ok (n - (n - length (table samples numbers))) ≡ table_size samples numbers n = size_given samples numbers n (n - length (table samples numbers)) p.input (sym (left_yes n (table samples numbers) (omega arith))) in
    let z : Ok (n - (n - length (table samples numbers))) ≡ Err r = g ∙ sym f in
    cc

-- what is told of a text is no failed read
module _ (file : List ℕ) (shelf : Shelved) (numbers : List ℕ) (known : Option (List ℕ)) where
  by_table : (said : TableRefusal → List ℕ) (o : Result (List ℕ) TableRefusal) → IfSome known (λ i. IsOwed file shelf numbers i (told_of said o)) → OwesRead file shelf numbers known (told_of said o).0 (told_of said o).1.0 (told_of said o).1.1
  by_table said (Ok text) h = h
  by_table said (Err r) h = h

  by_samples : (lines : List (List ℕ)) (r : Told) → IfSome known (λ i. IsOwed file shelf numbers i (owed_samples file shelf lines numbers r))
      → OwesRead file shelf numbers known (owed_samples file shelf lines numbers r).0 (owed_samples file shelf lines numbers r).1.0 (owed_samples file shelf lines numbers r).1.1
  by_samples lines (Ok samples) h = by_table (refusal_said file shelf lines numbers samples) (table_within samples numbers) h
  by_samples lines (Err line) h = h

same_owed : (file : List ℕ) (shelf : Shelved) (numbers : List ℕ) (known : Option (List ℕ)) (input : List ℕ) (t : Telling) → IfSome known (λ i. input ≡ i) → IsOwed file shelf numbers input t → IfSome known (λ i. IsOwed file shelf numbers i t)
same_owed file shelf numbers None input t h o = tt
same_owed file shelf numbers (Some i) input t h o = subst (λ (x : List ℕ). IsOwed file shelf numbers x t) h o

-- what is told of the whole input is owed it
pub owes_told : (file : List ℕ) (shelf : Shelved) (numbers : List ℕ) (known : Option (List ℕ)) (input : List ℕ) (t : Telling) → IfSome known (λ i. input ≡ i) → IsOwed file shelf numbers input t → OwesRead file shelf numbers known t.0 t.1.0 t.1.1
owes_told file shelf numbers known input t h o =
    subst (λ (x : Telling). OwesRead file shelf numbers known x.0 x.1.0 x.1.1) (sym o.2)
    (by_samples file shelf numbers known (lines_of input) o.0 (same_owed file shelf numbers known input (owed_samples file shelf (lines_of input) numbers o.0) h (o.0, o.1, refl)))

pub known_all : (known : Option (List ℕ)) (input : List ℕ) → IfSome known (λ xs. input ≡ [] ++ xs) → IfSome known (λ i. input ≡ i)
known_all None input h = tt
known_all (Some i) input h = h

-- nor is a failed read what is told of a text
pub stopped_owes : (file : List ℕ) (shelf : Shelved) (numbers : List ℕ) (known : Option (List ℕ)) (t : Telling) → (reason : List ℕ) × (t ≡ telling ans.Stopped stop_text (file_said file (read_failed reason))) → OwesRead file shelf numbers known t.0 t.1.0 t.1.1
stopped_owes file shelf numbers known t e = subst (λ (x : Telling). OwesRead file shelf numbers known x.0 x.1.0 x.1.1) (sym e.1) (e.0, refl, refl)
