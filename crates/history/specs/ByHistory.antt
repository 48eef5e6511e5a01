-- What a history tells of the device's business: which tags are outstanding, what has moved of them, which phase is open, and whether reset is held. From calls, refusals and frames alone.
use Rattle.std.specs.Prelude.{Bool, true, false, not, ◌&&◌, ◌||◌, List, [], ◌∷◌, map, ℕ, ◌+◌, ◌-◌, eqb, leb, ltb, length, Ok}
use Rattle.bits.specs.Pick.{pick}
use Rattle.frames.specs.Shared.{srst_of}
use Rattle.frames.specs.Read.{read_frame}
use Rattle.frames.specs.declared.shapes.Frame.TheVariants.{Host}
use Rattle.rules.specs.Call.{Call, host_frame, happens}
use Rattle.rules.specs.declared.event.DeviceEvent.TheVariants.{Comreset}
use Rattle.history.specs.Event.{Event, taken}
use Rattle.history.specs.Asked.{asks}
use Rattle.history.specs.Replied.{FrameRead, some}
use Rattle.history.specs.Seen.{seen, Transfer, no_transfer, under_way}
use Rattle.history.specs.Fates.{Command, commands, own_tag, outstanding}
use Rattle.history.specs.Carried.{transfer, carried, size}

-- some command of tag t is outstanding, and is so; there is at most one [one-per-tag]
abbrev pub outstanding_with : ℕ → (Command → Bool) → List Event → Bool
outstanding_with t is h = some (λ c. eqb (own_tag c) t && (outstanding c && is c)) (commands (map seen h))

-- a tag is outstanding
abbrev pub is_out : ℕ → List Event → Bool
is_out t h = outstanding_with t (λ c. true) h

-- a command's data frames have carried all of its bytes
abbrev pub whole : Command → Bool
whole c = eqb (length (carried c)) (size c)

-- a sector of a command's range
abbrev pub covers : ℕ → Command → Bool
covers sector c = leb c.accepted.asks.first sector && ltb sector (c.accepted.asks.first + c.accepted.asks.count)

-- what is under way: the open phase
abbrev pub under_way_after : List Event → Transfer
under_way_after h = transfer (map seen h)

-- a phase is open
abbrev pub is_open : Transfer → Bool
is_open no_transfer = false
is_open (under_way d t a z) = true

-- how many bytes are left of it, in a direction; of no phase, and of one in the other direction, none
abbrev pub left_in_transfer : Bool → Transfer → ℕ
left_in_transfer d no_transfer = 0
left_in_transfer d (under_way x t a z) = pick (pick d x (not x)) (z - a) 0

-- a frame ends a held reset: a control frame (C 0) with SRST 0
abbrev pub frame_frees : FrameRead → Bool
frame_frees (Ok (Host h)) = not h.command_bit && not (srst_of h.control)
frame_frees _ = false

-- and so does COMRESET, which is SRST and release together
abbrev pub frees : Call → Bool
frees (host_frame f) = frame_frees (read_frame f)
frees (happens Comreset) = true
frees _ = false

-- reset is held: SRST was taken, and since then neither its release nor COMRESET [refused-exactly]
unfoldable pub holding : List Event → Bool
holding [] = false
holding (e ∷ h) = pick (taken e && frees e.call) false ((asks e).resets || holding h)
