-- Why no table is given: the tests in their order, of which the first that holds counts.
use Rattle.std.specs.Prelude.{◌≡◌, ℕ, ◌<◌, Bool, true, false, not, ◌||◌, List, [], ◌∷◌, length, drop, get_or, eqb, ltb, Option, Some, None, Result, Ok, Err}
use Rattle.refusals.specs.First.{Iff}
use Rattle.std.specs.List.{find, list_any, zip}
use Rattle.std.specs.Option.{option_map}
use Rattle.refusals.specs.Number.{number}
use Rattle.refusals.specs.declared.reasons.Refusal.TheVariants.{PageLength, PageSum, PageDamaged, NoCounter}
use Rattle.pages.specs.Sum.{sum256}
use Rattle.pages.specs.Entries.{entries}
use Rattle.pages.specs.Read11.{any_fault, damaged, no_number}
use Rattle.hourly_table.specs.Samples.{Sampled}
use Rattle.hourly_table.specs.declared.reasons.TableRefusal.{TableRefusal}
use Rattle.hourly_table.specs.declared.reasons.TableRefusal.TheVariants.{Reading, HourBackwards, TableShort}

-- as the refusal table numbers them
abbrev pub table_number : TableRefusal → ℕ
table_number (Reading refusal) = number refusal
table_number HourBackwards = 70
table_number TableShort = 71

-- a page is not 512 bytes long; its sum is wrong; an entry of it is one that no page may have, or it has one of the numbers twice
abbrev pub wrong_length : Sampled → Bool
wrong_length s = not (eqb (length s.page) 512)

abbrev pub wrong_sum : Sampled → Bool
wrong_sum s = not (eqb (sum256 s.page) 0)

abbrev pub damaged_for : List ℕ → Sampled → Bool
damaged_for numbers s = any_fault (entries s.page) || list_any (λ n. damaged n (entries s.page)) numbers

-- an hour is lower than the one before it
abbrev pub hour_falls : List Sampled → Bool
hour_falls samples = list_any (λ pair. ltb pair.1.hour pair.0.hour) (zip samples (drop 1 samples))

-- a test, and why it refuses
abbrev pub TableTest : Type 0
TableTest = Bool × TableRefusal

abbrev pub refuses : TableRefusal → Bool → TableTest
refuses refusal test = (test, refusal)

-- a reader's tests in its order, each over all pages or all numbers [refused-table]; then 70: an hour lower than the one before it [refused-70]
abbrev pub input_tests : List Sampled → List ℕ → List TableTest
input_tests samples numbers =
    refuses (Reading PageLength) (list_any wrong_length samples)
    ∷ refuses (Reading NoCounter) (list_any no_number numbers)
    ∷ refuses (Reading PageSum) (list_any wrong_sum samples)
    ∷ refuses (Reading PageDamaged) (list_any (damaged_for numbers) samples)
    ∷ refuses HourBackwards (hour_falls samples) ∷ []

-- the refusal of the first test that holds, or none where none does
unfoldable pub first_refusal : List TableTest → Option TableRefusal
first_refusal tests = option_map (λ test. test.1) (find (λ test. test.0) tests)

-- what is answered, unless it is refused
abbrev pub unless_refused : {A : Type 0} → Option TableRefusal → A → Result A TableRefusal
unless_refused None a = Ok a
unless_refused (Some refusal) a = Err refusal

-- what stands past the end of a list of tests
abbrev pub no_test : TableTest
no_test = refuses TableShort false

-- no test in front of the k-th holds
abbrev pub NoneBefore : List TableTest → ℕ → Type 0
NoneBefore tests k = (j : ℕ) → j < k → (get_or tests j no_test).0 ≡ false

-- `given` is each test's refusal exactly when that test holds and none in front of it does, none exactly when none holds, and never another [refused-table]
pub record FirstGiven (tests : List TableTest) (given : Option TableRefusal) : Type 0 where
  pub each : (k : ℕ) → k < length tests → Iff (given ≡ Some (get_or tests k no_test).1) (((get_or tests k no_test).0 ≡ true) × NoneBefore tests k)
  pub none : Iff (given ≡ None) (NoneBefore tests (length tests))
  pub other : ((k : ℕ) → k < length tests → given ≡ Some (get_or tests k no_test).1 → ⊥) → given ≡ None
