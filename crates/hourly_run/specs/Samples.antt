-- The samples that a text may tell.
use Rattle.std.specs.Prelude.{◌≡◌, ℕ, ◌+◌, List, [], ◌∷◌, Result, Ok, Err}
use Rattle.hourly_table.specs.Samples.{Sampled}
use Rattle.hourly_run.specs.Entries.{Entry, entry_of}
use Rattle.hourly_run.specs.Lines.{lines_of}
use Rattle.hourly_run.specs.Pages.{Shelved, Page, MayGive}
use Rattle.hourly_run.specs.Said.{line_said}

-- the sample of an hour, where it has a page; or why it has none
abbrev pub sample_at : ℕ → Page → Result Sampled (List ℕ)
sample_at hour (Ok p) = Ok (record { hour = hour; page = p })
sample_at hour (Err why) = Err why

-- of an entry, with the page that it gave
abbrev pub MayTell : Shelved → Entry → Result Sampled (List ℕ) → Type 0
MayTell shelf (Err why) sample = sample ≡ Err why
MayTell shelf (Ok entry) sample = (page : Page) × MayGive shelf entry.1 page × (sample ≡ sample_at entry.0 page)

-- the samples of a text; or what is said of the first line that tells none
abbrev pub Told : Type 0
Told = Result (List Sampled) (List ℕ)

-- a sample in front of samples
abbrev pub in_front : Sampled → Told → Told
in_front sample (Ok samples) = Ok (sample ∷ samples)
in_front sample (Err said) = Err said

-- a line's sample in front of what the lines behind it tell; or what is said of the line that tells none, and no line behind it counts
abbrev pub Joined : (List ℕ → List ℕ) → Result Sampled (List ℕ) → (Told → Type 0) → Told → Type 0
Joined said (Err why) Behind told = told ≡ Err (said why)
Joined said (Ok sample) Behind told = (more : Told) × Behind more × (told ≡ in_front sample more)

-- the samples of lines, of which the first has the number n
unfoldable pub SamplesIn : Shelved → ℕ → List (List ℕ) → Told → Type 0
SamplesIn shelf n [] told = told ≡ Ok []
SamplesIn shelf n (line ∷ lines) told =
    (sample : Result Sampled (List ℕ)) × MayTell shelf (entry_of line) sample
    × Joined (line_said shelf n (entry_of line)) sample (SamplesIn shelf (n + 1) lines) told

-- and of a text, whose first line has the number 1 [hourly-input] [hourly-said]
abbrev pub SamplesOf : Shelved → List ℕ → Told → Type 0
SamplesOf shelf text told = SamplesIn shelf 1 (lines_of text) told
