-- The public functions' own contracts: what they say.
use Rattle.std.specs.Prelude.{◌+◌, ◌≤◌, List, [], None, Err, Ok, Option, Some, codes, decimal, false, get_or, is_err, length, true, ℕ, ◌++◌, ◌<◌, ◌^◌, ◌∷◌, ◌≡◌}
use Rattle.std.specs.Str.Parse.{digits_value}
use Rattle.refusals.specs.First.{Iff}
use Rattle.pages.specs.Read11.{read_counter}
use Rattle.pages.specs.Others11.{count_others}
use Rattle.pages.specs.Top.{at_top}
use Rattle.pages.specs.declared.value.CounterValue.{CounterValue}
use Rattle.hourly_table.specs.Samples.{Sampled, page_before, page_of_hour}
use Rattle.hourly_table.specs.Changes.{change_in}
use Rattle.hourly_table.specs.Counted.{AllBytes, Counted}
use Rattle.hourly_table.specs.Rows.{field_text, hex_number, row_text as line_text}
use Rattle.hourly_table.specs.Refused.{FirstGiven, first_refusal, input_tests}
use Rattle.hourly_table.specs.Table.{hours_of, table, table_size, table_tests}
use Rattle.csv.specs.Reading.{default_config, records}
use Rattle.csv.specs.Writing.{row_text}
use Rattle.hourly_promises.specs.Csv.{AllHours, crlf_writer, fields_of, header_fields, records_of}
use Rattle.refusals.specs.declared.reasons.Refusal.TheVariants.{PageLength, PageSum, PageDamaged}
use Rattle.pages.specs.Sum.{sum256}
use Rattle.hourly_table.specs.Places.{place_of}
use Rattle.hourly_table.specs.declared.reasons.TableRefusal.TheVariants.{Reading, HourBackwards}
use Rattle.hourly_promises.specs.Firsts.{FirstSo, FirstFall, RefusedFor}
use Rattle.bits.specs.Contract.{Says}
use Rattle.bits.proofs.Tying.{say}
use Rattle.hourly_promises.proofs.fields
use Rattle.hourly_promises.specs.contracts.fields as fields-said
use Rattle.hourly_promises.proofs.hours
use Rattle.hourly_promises.specs.contracts.hours as hours-said
use Rattle.hourly_promises.proofs.turned_down
use Rattle.hourly_promises.specs.contracts.turned_down as turned_down-said
use Rattle.hourly_run.specs.Entries.{entry_of}
use Rattle.hourly_run.specs.Lines.{lines_of}
use Rattle.hourly_run.specs.Pages.{Shelved}
use Rattle.hourly_run.specs.Said.{line_said}
use Rattle.hourly_run.specs.Samples.{MayTell, SamplesOf}
use Rattle.hourly_promises.proofs.lines
use Rattle.hourly_promises.specs.contracts.lines as lines-said
use Rattle.hourly_promises.proofs.csv_text
use Rattle.hourly_promises.specs.contracts.csv_text as csv_text-said

pub tied_never_zero : Says fields-said.never_zero.ended fields.never_zero.Reads.Asked fields.never_zero.Reads.Post (λ κs a r ws. (samples : List Sampled) → AllBytes samples → (hour number : ℕ) → Iff (field_text (change_in samples hour number) ≡ codes "0") (Counted samples hour number 0))
tied_never_zero = say (λ κs a. tt) (λ κs a r ws p. p)

pub tied_change_exactly : Says fields-said.change_exactly.ended fields.change_exactly.Reads.Asked fields.change_exactly.Reads.Post (λ κs a r ws. (samples : List Sampled) (hour number change : ℕ) → Iff (change_in samples hour number ≡ Some change) (Counted samples hour number change))
tied_change_exactly = say (λ κs a. tt) (λ κs a r ws p. p)

pub tied_empty_where : Says fields-said.empty_where.ended fields.empty_where.Reads.Asked fields.empty_where.Reads.Post (λ κs a r ws. ((s : Sampled) (ss : List Sampled) (numbers : List ℕ) (number : ℕ) → first_refusal (input_tests (s ∷ ss) numbers) ≡ None → change_in (s ∷ ss) s.hour number ≡ None) × ((samples : List Sampled) (hour number : ℕ) → ((k : ℕ) (d : Sampled) → k < length samples → (get_or samples k d).hour ≡ hour → ⊥) → change_in samples hour number ≡ None) × ((samples : List Sampled) (hour number : ℕ) → ((k : ℕ) (d : Sampled) → k < length samples → (get_or samples k d).hour ≡ hour → ⊥) → change_in samples (hour + 1) number ≡ None) × ((samples : List Sampled) (hour number : ℕ) (before page : List ℕ) → page_before samples hour ≡ Some before → page_of_hour samples hour ≡ Some page → read_counter before number ≡ Ok None → change_in samples hour number ≡ None) × ((samples : List Sampled) (hour number : ℕ) (before page : List ℕ) → page_before samples hour ≡ Some before → page_of_hour samples hour ≡ Some page → read_counter page number ≡ Ok None → change_in samples hour number ≡ None) × ((samples : List Sampled) (hour number : ℕ) (before page : List ℕ) → page_before samples hour ≡ Some before → page_of_hour samples hour ≡ Some page → (old new : CounterValue) → read_counter before number ≡ Ok (Some old) → read_counter page number ≡ Ok (Some new) → new.value < old.value → change_in samples hour number ≡ None) × ((samples : List Sampled) (hour number : ℕ) (before page : List ℕ) → page_before samples hour ≡ Some before → page_of_hour samples hour ≡ Some page → (old new : CounterValue) → read_counter before number ≡ Ok (Some old) → read_counter page number ≡ Ok (Some new) → at_top old ≡ true → change_in samples hour number ≡ None) × ((samples : List Sampled) (hour number : ℕ) (before page : List ℕ) → page_before samples hour ≡ Some before → page_of_hour samples hour ≡ Some page → (old new : CounterValue) → read_counter before number ≡ Ok (Some old) → read_counter page number ≡ Ok (Some new) → at_top new ≡ true → change_in samples hour number ≡ None))
tied_empty_where = say (λ κs a. tt) (λ κs a r ws p. (p.0, p.1.0, p.1.1.0, p.1.1.1.0, p.1.1.1.1.0, p.1.1.1.1.1.0, p.1.1.1.1.1.1.0, p.1.1.1.1.1.1.1))

pub tied_later_stands : Says fields-said.later_stands.ended fields.later_stands.Reads.Asked fields.later_stands.Reads.Post (λ κs a r ws. ((xs : List Sampled) (s : Sampled) (ys : List Sampled) → ((k : ℕ) (d : Sampled) → k < length ys → (get_or ys k d).hour ≡ s.hour → ⊥) → page_of_hour (xs ++ s ∷ ys) s.hour ≡ Some s.page) × ((xs : List Sampled) (s : Sampled) (ys : List Sampled) → ((k : ℕ) (d : Sampled) → k < length ys → (get_or ys k d).hour ≡ s.hour → ⊥) → page_before (xs ++ s ∷ ys) (s.hour + 1) ≡ Some s.page) × ((samples : List Sampled) → page_before samples 0 ≡ None))
tied_later_stands = say (λ κs a. tt) (λ κs a r ws p. (p.0, p.1.0, p.1.1))

pub tied_first_exactly : Says turned_down-said.first_exactly.ended turned_down.first_exactly.Reads.Asked turned_down.first_exactly.Reads.Post (λ κs a r ws. (samples : List Sampled) (numbers : List ℕ) (room : ℕ) → FirstGiven (table_tests samples numbers room) (first_refusal (table_tests samples numbers room)))
tied_first_exactly = say (λ κs a. tt) (λ κs a r ws p. p)

pub tied_all_read : Says turned_down-said.all_read.ended turned_down.all_read.Reads.Asked turned_down.all_read.Reads.Post (λ κs a r ws. (samples : List Sampled) (numbers : List ℕ) (room size : ℕ) → Ok size ≡ table_size samples numbers room → (i : ℕ) (s : Sampled) → i < length samples → (j : ℕ) → j < length numbers → is_err (read_counter (get_or samples i s).page (get_or numbers j 0)) ≡ false)
tied_all_read = say (λ κs a. tt) (λ κs a r ws p. p)

pub tied_row_is_csv : Says csv_text-said.row_is_csv.ended csv_text.row_is_csv.Reads.Asked csv_text.row_is_csv.Reads.Post (λ κs a r ws. (hour number : ℕ) (change : Option ℕ) → hour < 2 ^ 64 → ((c : ℕ) → change ≡ Some c → c < 2 ^ 64) → line_text hour number change ≡ row_text crlf_writer (fields_of hour number change))
tied_row_is_csv = say (λ κs a. tt) (λ κs a r ws p. p)

pub tied_table_is_csv : Says csv_text-said.table_is_csv.ended csv_text.table_is_csv.Reads.Asked csv_text.table_is_csv.Reads.Post (λ κs a r ws. (samples : List Sampled) (numbers : List ℕ) → AllBytes samples → AllHours samples → records default_config (table samples numbers) ≡ header_fields ∷ records_of samples numbers)
tied_table_is_csv = say (λ κs a. tt) (λ κs a r ws p. p)

pub tied_field_exactly : Says fields-said.field_exactly.ended fields.field_exactly.Reads.Asked fields.field_exactly.Reads.Post (λ κs a r ws. ((samples : List Sampled) (hour number c : ℕ) → Counted samples hour number c → field_text (change_in samples hour number) ≡ decimal c) × ((samples : List Sampled) (hour number : ℕ) → ((c : ℕ) → Counted samples hour number c → ⊥) → field_text (change_in samples hour number) ≡ []))
tied_field_exactly = say (λ κs a. tt) (λ κs a r ws p. p)

pub tied_numbers_told : Says csv_text-said.numbers_told.ended csv_text.numbers_told.Reads.Asked csv_text.numbers_told.Reads.Post (λ κs a r ws. ((number : ℕ) → length (hex_number number) ≡ 3) × ((number : ℕ) → number < 4096 → digits_value 16 (hex_number number) ≡ number) × ((number k d : ℕ) → k < 3 → get_or (hex_number number) k d ≤ 70))
tied_numbers_told = say (λ κs a. tt) (λ κs a r ws p. (p.0, p.1.0, p.1.1))

pub tied_every_hour : Says hours-said.every_hour.ended hours.every_hour.Reads.Asked hours.every_hour.Reads.Post (λ κs a r ws. ((s : Sampled) (ss : List Sampled) (numbers : List ℕ) → first_refusal (input_tests (s ∷ ss) numbers) ≡ None → s.hour + length (hours_of (s ∷ ss)) ≡ (get_or (s ∷ ss) (length ss) s).hour + 1) × ((s : Sampled) (ss : List Sampled) (numbers : List ℕ) → first_refusal (input_tests (s ∷ ss) numbers) ≡ None → (k d : ℕ) → k < length (hours_of (s ∷ ss)) → get_or (hours_of (s ∷ ss)) k d ≡ s.hour + k) × (hours_of [] ≡ []))
tied_every_hour = say (λ κs a. tt) (λ κs a r ws p. (p.0, p.1.0, p.1.1))

pub tied_table_given : Says turned_down-said.table_given.ended turned_down.table_given.Reads.Asked turned_down.table_given.Reads.Post (λ κs a r ws. (samples : List Sampled) (numbers : List ℕ) (room : ℕ) → ((j : ℕ) → j < length numbers → 1 ≤ get_or numbers j 0) → ((j : ℕ) → j < length numbers → get_or numbers j 0 < 4096) → ((i : ℕ) (s : Sampled) → i < length samples → is_err (count_others (get_or samples i s).page) ≡ false) → ((i : ℕ) (s : Sampled) → i < length samples → (j : ℕ) → j < length numbers → is_err (read_counter (get_or samples i s).page (get_or numbers j 0)) ≡ false) → ((i : ℕ) (s : Sampled) → i + 1 < length samples → (get_or samples i s).hour ≤ (get_or samples (i + 1) s).hour) → length (table samples numbers) ≤ room → table_size samples numbers room ≡ Ok (length (table samples numbers)))
tied_table_given = say (λ κs a. tt) (λ κs a r ws p. p)

pub tied_given_only : Says turned_down-said.given_only.ended turned_down.given_only.Reads.Asked turned_down.given_only.Reads.Post (λ κs a r ws. ((samples : List Sampled) (numbers : List ℕ) (room size : ℕ) → Ok size ≡ table_size samples numbers room → (j : ℕ) → j < length numbers → (1 ≤ get_or numbers j 0) × (get_or numbers j 0 < 4096)) × ((samples : List Sampled) (numbers : List ℕ) (room size : ℕ) → Ok size ≡ table_size samples numbers room → (i : ℕ) (s : Sampled) → i < length samples → is_err (count_others (get_or samples i s).page) ≡ false) × ((samples : List Sampled) (numbers : List ℕ) (room size : ℕ) → Ok size ≡ table_size samples numbers room → (i : ℕ) (s : Sampled) → i + 1 < length samples → (get_or samples i s).hour ≤ (get_or samples (i + 1) s).hour) × ((samples : List Sampled) (numbers : List ℕ) (room size : ℕ) → Ok size ≡ table_size samples numbers room → length (table samples numbers) ≤ room) × ((samples : List Sampled) (numbers : List ℕ) (room size : ℕ) → Ok size ≡ table_size samples numbers room → size ≡ length (table samples numbers)))
tied_given_only = say (λ κs a. tt) (λ κs a r ws p. (p.0, p.1.0, p.1.1.0, p.1.1.1.0, p.1.1.1.1))

pub tied_line_counted : Says lines-said.line_counted.ended lines.line_counted.Reads.Asked lines.line_counted.Reads.Post (λ κs a r ws. (shelf : Shelved) (text : List ℕ) (before : List (List ℕ)) (line : List ℕ) (after : List (List ℕ)) (why : List ℕ) → lines_of text ≡ before ++ line ∷ after → ((k : ℕ) → k < length before → (s : Sampled) × MayTell shelf (entry_of (get_or before k [])) (Ok s)) → MayTell shelf (entry_of line) (Err why) → SamplesOf shelf text (Err (line_said shelf (length before + 1) (entry_of line) why)))
tied_line_counted = say (λ κs a. tt) (λ κs a r ws p. p)

pub tied_line_worded : Says lines-said.line_worded.ended lines.line_worded.Reads.Asked lines.line_worded.Reads.Post (λ κs a r ws. ((why : List ℕ) → line_said None 17 (Ok (4711, [])) why ≡ codes "line 17, hour 4711: " ++ why) × ((holds : List ℕ → Option (Option (List ℕ))) → line_said (Some holds) 3 (Ok (100, codes "a\u{1b}.page")) (codes "x") ≡ codes "line 3, hour 100, page a\\x1b.page: x") × ((why : List ℕ) → line_said None 1 (Err why) why ≡ codes "line 1: " ++ why))
tied_line_worded = say (λ κs a. tt) (λ κs a r ws p. (p.0, p.1.0, p.1.1))

pub tied_first_blamed : Says turned_down-said.first_blamed.ended turned_down.first_blamed.Reads.Asked turned_down.first_blamed.Reads.Post (λ κs a r ws. ((samples : List Sampled) (numbers : List ℕ) (room : ℕ) → Err (Reading PageLength) ≡ table_size samples numbers room → FirstSo samples (λ s. length s.page ≡ 512 → ⊥) (place_of samples numbers (Reading PageLength))) × ((samples : List Sampled) (numbers : List ℕ) (room : ℕ) → Err (Reading PageSum) ≡ table_size samples numbers room → FirstSo samples (λ s. sum256 s.page ≡ 0 → ⊥) (place_of samples numbers (Reading PageSum))) × ((samples : List Sampled) (numbers : List ℕ) (room : ℕ) → Err (Reading PageDamaged) ≡ table_size samples numbers room → FirstSo samples (λ s. RefusedFor numbers s.page) (place_of samples numbers (Reading PageDamaged))) × ((samples : List Sampled) (numbers : List ℕ) (room : ℕ) → Err HourBackwards ≡ table_size samples numbers room → FirstFall samples (place_of samples numbers HourBackwards)))
tied_first_blamed = say (λ κs a. tt) (λ κs a r ws p. (p.0, p.1.0, p.1.1.0, p.1.1.1))
