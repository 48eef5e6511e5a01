-- How an event is taken from its bytes, by the kind that the first of them names: what the grammar says of its bytes is said in `event_bytes`, and that both agree is proved.
use Rattle.std.specs.Prelude.{List, ℕ, eqb, get_or, Option, Some, None}
use Rattle.bits.specs.Little.{le_at}
use Rattle.bits.specs.Pick.{pick}
use Rattle.events.specs.declared.kinds.Kind.{Kind}
use Rattle.events.specs.declared.kinds.Kind.TheVariants as kinds
use Rattle.events.specs.declared.asked.Event.{Event}
use Rattle.events.specs.declared.asked.Event.TheVariants.{OfDevice, HostData, HostRegister, Bist}
use Rattle.rules.specs.declared.event.DeviceEvent.TheVariants.{OpenPhase, SendData, FinishTags, MediaError, LinkEvent, Comreset}

-- the kind that a byte names: 01h open, 02h send, 03h finish, 04h media error, 05h link event, 06h COMRESET, 07h host data, 27h and 58h a frame of that type [event-kinds]
unfoldable pub kind_named : ℕ → Option Kind
kind_named k =
    pick (eqb k 0x01) (Some kinds.OpenPhase)
    (pick (eqb k 0x02) (Some kinds.SendData)
    (pick (eqb k 0x03) (Some kinds.FinishTags)
    (pick (eqb k 0x04) (Some kinds.MediaError)
    (pick (eqb k 0x05) (Some kinds.LinkEvent)
    (pick (eqb k 0x06) (Some kinds.Comreset)
    (pick (eqb k 0x07) (Some kinds.HostData)
    (pick (eqb k 0x27) (Some kinds.HostRegister)
    (pick (eqb k 0x58) (Some kinds.Bist) None))))))))

-- the length of a kind's body: tag 1, none 0, mask 4, tag, error and sector 6, row 1, byte 1, and of a frame of 20 or 12 bytes what is behind its type [event-kinds]
unfoldable pub body_of : Kind → ℕ
body_of kinds.OpenPhase = 1
body_of kinds.SendData = 0
body_of kinds.FinishTags = 4
body_of kinds.MediaError = 6
body_of kinds.LinkEvent = 1
body_of kinds.Comreset = 0
body_of kinds.HostData = 1
body_of kinds.HostRegister = 19
body_of kinds.Bist = 11

-- the event that the bytes e of a kind are. Open: tag. Finish: mask 4. Media error: tag, error, sector 4. Link event: row. Host data: byte. 27h and 58h: the frame itself
unfoldable pub event_by_kind : List ℕ → Kind → Event
event_by_kind e kinds.OpenPhase = OfDevice (OpenPhase (get_or e 1 0))
event_by_kind e kinds.SendData = OfDevice SendData
event_by_kind e kinds.FinishTags = OfDevice (FinishTags (le_at e 1 4))
event_by_kind e kinds.MediaError = OfDevice (MediaError (get_or e 1 0) (get_or e 2 0) (le_at e 3 4))
event_by_kind e kinds.LinkEvent = OfDevice (LinkEvent (get_or e 1 0))
event_by_kind e kinds.Comreset = OfDevice Comreset
event_by_kind e kinds.HostData = HostData (get_or e 1 0)
event_by_kind e kinds.HostRegister = HostRegister e
event_by_kind e kinds.Bist = Bist e
