-- The bytes of an event behind the settings, in the direction in which they are written.
use Rattle.std.specs.Prelude.{◌≡◌, ◌<◌, ◌≤◌, ◌^◌, List, [], ◌∷◌, ◌++◌, ℕ, length, take, get_or, Option, Some, None}
use Rattle.bits.specs.Little.{Bytes, le_bytes}
use Rattle.events.specs.declared.asked.Event.{Event}
use Rattle.events.specs.declared.asked.Event.TheVariants.{OfDevice, HostData, HostRegister, Bist}
use Rattle.rules.specs.declared.event.DeviceEvent.TheVariants.{OpenPhase, SendData, FinishTags, MediaError, LinkEvent, LinkTally, Comreset}

-- its kind, and the fields of its body in their order; the kind of a frame is its type; a tally has no kind, and stands in no event file [event-kinds]
unfoldable pub event_bytes : Event → List ℕ
event_bytes (OfDevice (OpenPhase tag)) = 0x01 ∷ tag ∷ []
event_bytes (OfDevice SendData) = 0x02 ∷ []
event_bytes (OfDevice (FinishTags tags)) = 0x03 ∷ le_bytes 4 tags
event_bytes (OfDevice (MediaError tag error sector)) = 0x04 ∷ tag ∷ error ∷ le_bytes 4 sector
event_bytes (OfDevice (LinkEvent row)) = 0x05 ∷ row ∷ []
event_bytes (OfDevice (LinkTally amounts)) = []
event_bytes (OfDevice Comreset) = 0x06 ∷ []
event_bytes (HostData byte) = 0x07 ∷ byte ∷ []
event_bytes (HostRegister frame) = frame
event_bytes (Bist frame) = frame

-- a number of four bytes is below 2^32, and a frame is of its type and length [event-kinds]
unfoldable pub IsShaped : Event → Type 0
IsShaped (OfDevice (FinishTags tags)) = tags < 2 ^ 32
IsShaped (OfDevice (MediaError tag error sector)) = sector < 2 ^ 32
IsShaped (OfDevice (LinkTally amounts)) = ⊥
IsShaped (OfDevice event) = Unit
IsShaped (HostData byte) = Unit
IsShaped (HostRegister frame) = (length frame ≡ 20) × (get_or frame 0 0 ≡ 0x27)
IsShaped (Bist frame) = (length frame ≡ 12) × (get_or frame 0 0 ≡ 0x58)

-- so its fields fit, and its bytes are bytes
abbrev pub Fits : Event → Type 0
Fits event = IsShaped event × Bytes (event_bytes event)

-- no event begins these bytes [event-kinds] [event-stop]
abbrev pub NoEventBegins : List ℕ → Type 0
NoEventBegins l = (event : Event) (rest : List ℕ) → Fits event → l ≡ event_bytes event ++ rest → ⊥

-- these are the bytes of that event [event-reads]
abbrev pub IsSpelt : Event → List ℕ → Type 0
IsSpelt event e = Fits event × (e ≡ event_bytes event)

-- the first n of some bytes are those of the event [event-reads]
pub record BeginsWith (l : List ℕ) (event : Event) (n : ℕ) : Type 0 where
  pub within : n ≤ length l
  pub spelt : IsSpelt event (take n l)

-- the event that bytes begin with, and how many of them are its; or none begins them [no-event]
abbrev pub FirstEvent : List ℕ → Option (Event × ℕ) → Type 0
FirstEvent l (Some found) = BeginsWith l found.0 found.1
FirstEvent l None = NoEventBegins l
