-- Where in the medium the data that are under way stand: a command's range, from its first byte on.
use Rattle.std.specs.Prelude.{Bool, ◌&&◌, List, ◌++◌, map, ℕ, ◌+◌, ◌-◌, leb, length, take, drop, find, slice_get, Option, None}
use Rattle.std.specs.Option.{option_map_or}
use Rattle.bits.specs.Pick.{pick}
use Rattle.history.specs.Event.{Event}
use Rattle.history.specs.Seen.{seen, Transfer, no_transfer, under_way}
use Rattle.history.specs.Fates.{Command, commands, own_tag, outstanding}
use Rattle.history.specs.Carried.{transfer, base, belongs}

-- data of tag t are those of an outstanding command: a read's to the host (D 1), a write's from it (D 0)
abbrev pub owns : Bool → ℕ → Command → Bool
owns d t c = outstanding c && belongs c.accepted.asks.write (own_tag c) d t

-- the command whose data are under way; where nothing is, none
abbrev pub owner_in_transfer : List Command → Transfer → Option Command
owner_in_transfer cs no_transfer = None
owner_in_transfer cs (under_way d t a z) = find (owns d t) cs

-- the next byte of what is under way, counted in the medium from the first byte of that command's range; where nothing is, 0
abbrev pub place_in_transfer : List Command → Transfer → ℕ
place_in_transfer cs no_transfer = 0
place_in_transfer cs (under_way d t a z) = option_map_or base (owner_in_transfer cs (under_way d t a z)) 0 + a

-- each after a history
abbrev pub due_owner : List Event → Option Command
due_owner h = owner_in_transfer (commands (map seen h)) (transfer (map seen h))

abbrev pub due_place : List Event → ℕ
due_place h = place_in_transfer (commands (map seen h)) (transfer (map seen h))

-- a medium with these bytes at that place, otherwise as it was [data-place]
abbrev pub written : ℕ → List ℕ → List ℕ → List ℕ
written at bytes medium = take at medium ++ (bytes ++ drop (at + length bytes) medium)

-- the byte of position p among bytes at that place
abbrev pub byte_at : ℕ → List ℕ → ℕ → Option ℕ
byte_at at bytes p = pick (leb at p) (slice_get bytes (p - at)) None
