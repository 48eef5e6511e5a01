-- The bytes that a command's data frames carried: positions from DMA Setup and the lengths of the data frames that follow it.
use Rattle.std.specs.Prelude.{◌≡◌, Bool, true, false, not, ◌&&◌, ◌||◌, List, [], ◌∷◌, ◌++◌, ℕ, zero, suc, ◌+◌, ◌*◌, ◌≤◌, ◌<◌, eqb, ltb}
use Rattle.bits.specs.Pick.{pick}
use Rattle.history.specs.Seen.{Seen, Transfer, no_transfer, under_way, errs}
use Rattle.history.specs.Fates.{Command, own_tag, outstanding_at}

-- the bytes that an event carries in a direction: device data to the host, taken host data from it
abbrev pub load : Bool → Seen → ℕ
load to_host e = pick to_host e.sends e.asks.brings

-- n bytes on; used up, a Setup has no more data
abbrev pub onward : ℕ → Transfer → Transfer
onward zero x = x
onward (suc n) no_transfer = no_transfer
onward (suc n) (under_way d t a z) = pick (ltb (a + suc n) z) (under_way d t (a + suc n) z) no_transfer

-- the data of an event, in the direction of what is under way
abbrev pub advanced : Seen → Transfer → Transfer
advanced e no_transfer = no_transfer
advanced e (under_way d t a z) = onward (load d e) (under_way d t a z)

-- what is under way after a history: an error and a reset close it [carried-once]
unfoldable pub transfer : List Seen → Transfer
transfer [] = no_transfer
transfer (e ∷ h) = pick (errs e || e.asks.resets) no_transfer (e.begins (advanced e (transfer h)))

-- n numbers from a on, rising
unfoldable pub span : ℕ → ℕ → List ℕ
span a zero = []
span a (suc n) = a ∷ span (suc a) n

-- the first byte of a command's range
abbrev pub base : Command → ℕ
base c = 512 * c.accepted.asks.first

-- and how many bytes it has
abbrev pub size : Command → ℕ
size c = 512 * c.accepted.asks.count

-- data of a tag in a direction is that of a command with this tag: a read after D 1, a write after D 0
abbrev pub belongs : Bool → ℕ → Bool → ℕ → Bool
belongs write tag d t = eqb t tag && pick write (not d) d

-- the positions that an event carries of a command whose range begins at `start`
abbrev pub positions : ℕ → Bool → ℕ → Seen → Transfer → List ℕ
positions start write tag e no_transfer = []
positions start write tag e (under_way d t a z) = pick (belongs write tag d t) (span (start + a) (load d e)) []

-- the positions carried while the command was outstanding, in order [carried-once]
unfoldable pub carried_at : ℕ → Bool → ℕ → List Seen → List ℕ
carried_at start write tag [] = []
carried_at start write tag (e ∷ n) = carried_at start write tag n ++ pick (outstanding_at tag n) (positions start write tag e (transfer n)) []

-- of a command
abbrev pub carried : Command → List ℕ
carried c = carried_at (base c) c.accepted.asks.write (own_tag c) c.after

-- n bytes in a direction are of what is under way, and within what is left of it
abbrev pub Within : Bool → ℕ → Transfer → Type 0
Within d n no_transfer = ⊥
Within d n (under_way x t a z) = (x ≡ d) × (a + n ≤ z)

-- no stray data: data sent are of a Setup under way with D 1, data brought of one with D 0 [data-owned]
pub record NoStray (e : Seen) (x : Transfer) : Type 0 where
  pub sends : 0 < e.sends → Within true e.sends x
  pub brings : 0 < e.asks.brings → Within false e.asks.brings x
