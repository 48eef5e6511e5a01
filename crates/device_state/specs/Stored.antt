-- Where a command's bytes stand in the medium, and a payload that goes there.
use Rattle.std.specs.Prelude.{◌&&◌, List, ◌++◌, ℕ, ◌+◌, ◌*◌, leb, length, take, drop}
use Rattle.bits.specs.Pick.{pick}
use Rattle.bits.specs.Laid.{overlay_with_room}

-- where the next byte stands, of a command from a sector on of which so many bytes have moved [host-data]
abbrev pub place_in : ℕ → ℕ → ℕ
place_in first moved = 512 * first + moved

-- the payload of frame f laid over the medium m from a place on, where there is room for all of it; that a taken frame's payload has it is `data_stored` [host-data]
unfoldable pub stored_medium : ℕ → List ℕ → List ℕ → List ℕ
stored_medium at f m = pick (leb 4 (length f) && leb at (length m)) (take at m ++ overlay_with_room (drop 4 f) (drop at m)) m
