-- The rows of the table as records of the library `csv`.
use Rattle.std.specs.Prelude.{ℕ, ◌<◌, ◌^◌, List, [], ◌∷◌, map, length, get_or, codes, decimal, Option}
use Rattle.std.specs.List.{flat_map}
use Rattle.csv.specs.Writing.{default_writer, with_terminator}
use Rattle.csv.specs.declared.parser.Terminator.TheVariants as term
use Rattle.csv.specs.declared.writer.WriterBuilder.{WriterBuilder}
use Rattle.hourly_table.specs.Samples.{Sampled}
use Rattle.hourly_table.specs.Changes.{change_in}
use Rattle.hourly_table.specs.Rows.{hex_number, field_text}
use Rattle.hourly_table.specs.Table.{hours_of}

-- the library's writer, with CR LF behind every record
abbrev pub crlf_writer : WriterBuilder
crlf_writer = with_terminator default_writer term.CRLF

-- the three fields of a row [table-row]
abbrev pub fields_of : ℕ → ℕ → Option ℕ → List (List ℕ)
fields_of hour number change = decimal hour ∷ hex_number number ∷ field_text change ∷ []

-- what the header says
abbrev pub header_fields : List (List ℕ)
header_fields = codes "hour" ∷ codes "counter" ∷ codes "change" ∷ []

-- a record for each hour from the first to the last and each number asked, in the order asked [table-rows]
abbrev pub records_of : List Sampled → List ℕ → List (List (List ℕ))
records_of samples numbers = flat_map (λ hour. map (λ number. fields_of hour number (change_in samples hour number)) numbers) (hours_of samples)

-- hours have 64 bits, as those of samples always have
abbrev pub AllHours : List Sampled → Type 0
AllHours samples = (k : ℕ) (d : Sampled) → k < length samples → (get_or samples k d).hour < 2 ^ 64
