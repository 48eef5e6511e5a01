-- The events that a counter has counted since its zeroing, from calls and replies alone.
use Rattle.std.specs.Prelude.{Bool, ◌&&◌, List, [], ◌∷◌, map, ℕ, ◌+◌, min, Option, Some, None}
use Rattle.bits.specs.Pick.{pick}
use Rattle.counters.specs.Rows.{kept, row_of}
use Rattle.history.specs.Event.{Event, taken}
use Rattle.history.specs.Replied.{paged}
use Rattle.history.specs.Carried.{span}
use Rattle.history.specs.Reading.{call_raises, call_zeroes}

-- an event zeroes the counters: taken BIST, or a good read of page 11h with bit 0
abbrev pub zeroes : Event → Bool
zeroes e = taken e && call_zeroes (paged e) e.call

-- how many events of a row it is
abbrev pub events_of : ℕ → Event → ℕ
events_of r e = pick (taken e) (call_raises r e.call) 0

-- the events of a row since the last zeroing; the newest event stands first [counters-told]
unfoldable pub counted_in : ℕ → List Event → ℕ
counted_in r [] = 0
counted_in r (e ∷ h) = pick (zeroes e) 0 (events_of r e + counted_in r h)

-- held at the top
abbrev pub row_count : ℕ → List Event → ℕ
row_count r h = min 4294967295 (counted_in r h)

-- the sixteen rows, each as it was counted
abbrev pub counts : List Event → List ℕ
counts h = map (λ row. row_count row h) (span 0 16)

-- what a page must show of a row: for a kept one its count; absent for one that is not kept, and where there is no row
abbrev pub told_at : ℕ → List Event → Option ℕ → Option ℕ
told_at mask h (Some k) = pick (kept mask k) (Some (row_count k h)) None
told_at mask h None = None

-- of a counter's number [counters-told]
abbrev pub told_for : ℕ → List Event → ℕ → Option ℕ
told_for mask h number = told_at mask h (row_of number)
