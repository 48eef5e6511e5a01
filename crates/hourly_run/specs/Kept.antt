-- Samples that own their pages: how the code keeps them, and no part of what is owed.
use Rattle.std.specs.Prelude.{ℕ, List, Vec, map, Result, Ok, Err}
use Rattle.std.specs.Borrow.{Bor}
use Rattle.hourly_table.specs.Samples.{Sampled}
use Rattle.hourly_table.specs.declared.reasons.TableRefusal.{TableRefusal}
use Rattle.hourly_run.specs.Entries.{Entry}
use Rattle.hourly_run.specs.Owed.{Telling, telling}
use Rattle.hourly_run.specs.Pages.{Page}
use Rattle.hourly_run.specs.Samples.{Told}
use Rattle.hourly_run.specs.declared.answers.Telling.{Telling as Kept}
use Rattle.hourly_run.specs.declared.readings.Reading.{Reading}

-- its hour, and the bytes of its page
abbrev pub reading : Reading → Sampled
reading r = record { hour = r.hour; page = r.page.items }

-- an hour and what stands behind it, or what is wrong with the line
abbrev pub entry_told : Result (ℕ × Bor (List ℕ)) (Bor (List ℕ)) → Entry
entry_told (Ok entry) = Ok (entry.0, entry.1.now)
entry_told (Err why) = Err why.now

-- the bytes of a page, or why there is none
abbrev pub page_told : {A : Type 0} → Result (Vec ℕ A) (Vec ℕ A) → Page
page_told (Ok page) = Ok page.items
page_told (Err why) = Err why.items

-- a sample, or why there is none
abbrev pub reading_told : {A : Type 0} → Result Reading (Vec ℕ A) → Result Sampled (List ℕ)
reading_told (Ok r) = Ok (reading r)
reading_told (Err why) = Err why.items

-- samples, or what is said of a line
abbrev pub readings_told : {A B : Type 0} → Result (Vec Reading A) (Vec ℕ B) → Told
readings_told (Ok readings) = Ok (map reading readings.items)
readings_told (Err said) = Err said.items

-- the numbers of words, or a word
abbrev pub numbers_told : {A : Type 0} → Result (Vec ℕ A) (Bor (List ℕ)) → Result (List ℕ) (List ℕ)
numbers_told (Ok numbers) = Ok numbers.items
numbers_told (Err word) = Err word.now

-- a table, or a refusal
abbrev pub table_told : {A : Type 0} → Result (Vec ℕ A) TableRefusal → Result (List ℕ) TableRefusal
table_told (Ok table) = Ok table.items
table_told (Err refusal) = Err refusal

-- an answer with its texts
abbrev pub telling_told : Kept → Telling
telling_told t = telling t.answer t.text.items t.said.items
