-- One step of the walk over page 11h: how the code goes about it, and no part of what the page means.
use Rattle.std.specs.Prelude.{◌≡◌, ℕ, ◌+◌, Bool, ◌||◌, List, Option, Some, None, Result, Ok, Err}
use Rattle.bits.specs.Pick.{pick}
use Rattle.refusals.specs.declared.reasons.Refusal.{Refusal}
use Rattle.refusals.specs.declared.reasons.Refusal.TheVariants.{PageDamaged}
use Rattle.pages.specs.Entries.{CounterEntry, entry_at, id_at, ends_at, bytes_in, wrong_width, past_end, nameless}
use Rattle.pages.specs.declared.walk.Walk.{Walk}
use Rattle.pages.specs.declared.walk.WalkEntry.{WalkEntry}

-- an entry that the page may not have
abbrev pub faulty : CounterEntry → Bool
faulty e = (wrong_width e || past_end e) || nameless e

-- an entry as the walk finds it: its identifier, where its value starts, and the value's bytes
abbrev pub walk_entry : ℕ → ℕ → ℕ → WalkEntry
walk_entry id start bytes = record { id = record { 0 = id }; start = start; bytes = bytes }

-- what stands at a place: nothing more at 508 or at 0000h, a fault, or an entry [walk-kept]
unfoldable pub step_at : List ℕ → ℕ → Option (Result WalkEntry Refusal)
step_at page at =
    pick (ends_at page at) None
    (Some (pick (faulty (entry_at page at)) (Err PageDamaged) (Ok (walk_entry (id_at page at) (at + 2) (bytes_in (id_at page at))))))

-- where the walk stands then: behind an entry, and at the end of the entries behind a fault
abbrev pub place_after : ℕ → Option (Result WalkEntry Refusal) → ℕ
place_after at (Some (Ok e)) = e.start + e.bytes
place_after at (Some (Err r)) = 508
place_after at None = at

-- what a step answers, and the walk that it leaves [walk-kept]
pub record Stepped (w : Walk) (r : Option (Result WalkEntry Refusal)) (w' : Walk) : Type 0 where
  pub answer : r ≡ step_at w.page.now w.at
  pub page : w'.page ≡ w.page
  pub at : w'.at ≡ place_after w.at r
