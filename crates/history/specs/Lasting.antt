-- What stands in the medium after a history whose calls are each lent the medium as the last one left it: what the host wrote last.
use Rattle.std.specs.Prelude.{◌≡◌, Bool, true, false, List, [], ◌∷◌, ◌++◌, map, ℕ, ◌+◌, ◌≤◌, ◌<◌, slice_get, Option, Some, None}
use Rattle.std.specs.Option.{option_or}
use Rattle.bits.specs.Pick.{pick}
use Rattle.history.specs.Event.{Event}
use Rattle.history.specs.Asked.{brought}
use Rattle.history.specs.Replied.{sent}
use Rattle.history.specs.Seen.{Seen, seen}
use Rattle.history.specs.Fates.{Command, commands, finished, All}
use Rattle.history.specs.Carried.{base, size}
use Rattle.history.specs.Placed.{due_owner, due_place, byte_at}

-- the medium after a history: as its last call left it; before any call, m
abbrev pub medium_by : List ℕ → List Event → List ℕ
medium_by m [] = m
medium_by m (e ∷ h) = e.left

-- handed on: each call is lent the medium as the last one left it, and the first one m [finished-writes-stand]
unfoldable pub HandedOn : List ℕ → List Event → Type 0
HandedOn m [] = Unit
HandedOn m (e ∷ h) = (e.medium ≡ medium_by m h) × HandedOn m h

-- the data that an event moves in a direction: a write's are brought, a read's sent
abbrev pub data_moved : Bool → Event → List ℕ
data_moved write e = pick write (brought e) (sent e)

-- the byte of position p of the medium among them, where the event follows a history h
abbrev pub moved_byte : Bool → ℕ → Event → List Event → Option ℕ
moved_byte write p e h = byte_at (due_place h) (data_moved write e) p

-- the newest byte that the events x, which followed those of h, brought to position p
unfoldable pub newest : ℕ → List Event → List Event → Option ℕ
newest p [] h = None
newest p (e ∷ x) h = option_or (moved_byte true p e (x ++ h)) (newest p x h)

-- the byte last written at position p: the newest that host data brought there, or else what the first medium m held
abbrev pub last_written : List ℕ → ℕ → List Event → Option ℕ
last_written m p h = option_or (newest p h []) (slice_get m p)

-- and at every position of the medium it stands [finished-writes-stand]
abbrev pub Stands : List ℕ → List Event → Type 0
Stands m h = (p : ℕ) → slice_get (medium_by m h) p ≡ last_written m p h

-- and what a data frame reads of a position is the byte last written there before it [finished-writes-stand]
unfoldable pub ReadsBack : List ℕ → List Event → Type 0
ReadsBack m [] = Unit
ReadsBack m (e ∷ h) = ((p byte : ℕ) → moved_byte false p e h ≡ Some byte → last_written m p h ≡ Some byte) × ReadsBack m h

-- the byte of position p that a command's own data moved
pub record OwnByte (p : ℕ) (c : Command) (h : List Event) : Type 0 where
  -- in one data frame of the history, with events before it and since
  pub since : List Event
  pub frame : Event
  pub before : List Event
  pub is : h ≡ since ++ (frame ∷ before)
  -- when what was under way was this command's, as it stood then: accepted, and so much had followed
  pub followed : List Seen
  pub own : due_owner before ≡ Some (record { accepted = c.accepted; after = followed })
  pub after : c.after ≡ map seen since ++ (seen frame ∷ followed)
  -- the byte
  pub byte : ℕ
  pub moved : moved_byte c.accepted.asks.write p frame before ≡ Some byte

-- such a byte, over a medium that is handed on: a write's stands there still, but where a later data frame brought another; a read's was last written there before its frame
pub record ByteStands (m : List ℕ) (p : ℕ) (c : Command) (h : List Event) : Type 0 where
  pub own : OwnByte p c h
  pub written : c.accepted.asks.write ≡ true → slice_get (medium_by m h) p ≡ option_or (newest p own.since (own.frame ∷ own.before)) (Some own.byte)
  pub read : c.accepted.asks.write ≡ false → last_written m p own.before ≡ Some own.byte

-- of a finished command every byte [finished-writes-stand]
abbrev pub FinishedBytes : List ℕ → List Event → Type 0
FinishedBytes m h = All (λ c. finished c ≡ true → (p : ℕ) → base c ≤ p → p < base c + size c → ByteStands m p c h) (commands (map seen h))

-- the medium over a whole history [finished-writes-stand]
pub record Lasting (m : List ℕ) (h : List Event) : Type 0 where
  pub stands : Stands m h
  pub reads : ReadsBack m h
  pub finished : FinishedBytes m h
