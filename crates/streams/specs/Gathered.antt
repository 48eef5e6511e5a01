-- Lines that are gathered before they are written.
use Rattle.std.specs.Prelude.{◌≡◌, Bool, true, false, ℕ, List, ◌++◌, take, Option}
use Rattle.std.specs.Io.KnownBytes.{Appends}
use Rattle.streams.specs.Fronts.{AppendsFront}
use Rattle.streams.specs.declared.gathered.Lines.{Lines}

-- what is held back of gathered lines
abbrev pub held_back : Lines → List ℕ
held_back l = take l.held l.room

-- what a writer has, what of the lines is held back, and whether the writer has failed
pub record Gathering : Type 0 where
  pub written : Option (List ℕ)
  pub held : List ℕ
  pub failed : Bool

-- these three
abbrev pub gathering : Option (List ℕ) → List ℕ → Bool → Gathering
gathering w h f = record { written = w; held = h; failed = f }

-- of a text all but what is held was written; or a write failed, and a front of it and not all
abbrev pub GatheredBy : Bool → Option (List ℕ) → Option (List ℕ) → List ℕ → List ℕ → Type 0
GatheredBy false base now held text = (done : List ℕ) × Appends base now done × (text ≡ done ++ held)
GatheredBy true base now held text = AppendsFront base now text

abbrev pub Gathered : Option (List ℕ) → List ℕ → Gathering → Type 0
Gathered base text g = GatheredBy g.failed base g.written g.held text

-- a text more was gathered, whatever was before
pub record Pushes (old new : Gathering) (more : List ℕ) : Type 0 where
  pub goes : (base : Option (List ℕ)) (text : List ℕ) → Gathered base text old → Gathered base (text ++ more) new
