-- What an act takes from the medium, or puts there.
use Rattle.std.specs.Prelude.{List, [], ℕ, take, drop}
unfoldable pub use Rattle.device_state.specs.Stored.{stored_medium}
use Rattle.rules.specs.declared.acts.Move.{Move}
use Rattle.rules.specs.declared.acts.Act.{Act}
use Rattle.rules.specs.declared.acts.Act.TheVariants.{Store, Send}

-- what an act has to do with the medium: nothing, a part of it is sent, or host data goes there
pub data Touch : Type 0 where
  leaves : Touch
  sends : Move → Touch
  stores : Move → Touch

-- an act's: host data is stored, a send sends, every other act leaves the medium
unfoldable pub touch_of : Act → Touch
touch_of (Store k) = stores k
touch_of (Send k) = sends k
touch_of _ = leaves

-- what of the medium m such a touch sends
abbrev pub sent_by : Touch → List ℕ → List ℕ
sent_by leaves m = []
sent_by (sends k) m = take k.size (drop k.at m)
sent_by (stores k) m = []

-- what of the medium m an act sends [send]
abbrev pub part_of : Act → List ℕ → List ℕ
part_of a m = sent_by (touch_of a) m

-- the medium m after such a touch, by frame f
abbrev pub kept_by : Touch → List ℕ → List ℕ → List ℕ
kept_by leaves f m = m
kept_by (sends k) f m = m
kept_by (stores k) f m = stored_medium k.at f m

-- the medium m after an act of frame f [all-done]
abbrev pub medium_after : Act → List ℕ → List ℕ → List ℕ
medium_after a f m = kept_by (touch_of a) f m
