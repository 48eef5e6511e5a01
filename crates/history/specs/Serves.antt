-- What a device does for the commands that its state holds, whichever calls led to that state, or none: each is served by the range that its own bytes name.
use Rattle.std.specs.Prelude.{◌≡◌, Bool, true, false, not, ◌&&◌, List, [], ◌++◌, ℕ, ◌+◌, ◌-◌, ◌*◌, ◌≤◌, ◌<◌, min, leb, ltb, eqb, length, get_or, take, drop, Some, None}
use Rattle.bits.specs.Pick.{pick}
use Rattle.bits.specs.Bit.{bit_in}
use Rattle.frames.specs.Shared.{sectors_of}
use Rattle.frames.specs.Write.{setup, activate, payload, encode}
use Rattle.refusals.specs.declared.reasons.Refusal.TheVariants.{OutsideCommand}
use Rattle.device_state.specs.State.{task_in, tag_in, zero_entry}
use Rattle.device_state.specs.Table.{entry_of}
use Rattle.device_state.specs.declared.shapes.Entry.{Entry}
use Rattle.rules.specs.Call.{host_frame, happens}
use Rattle.rules.specs.declared.event.DeviceEvent.TheVariants.{OpenPhase, SendData, FinishTags, MediaError}
use Rattle.device.specs.Lent.{Lent, lent, Gave}
use Rattle.device.specs.declared.state.Device.{Device}
use Rattle.history.specs.Reading.{call_brings}

-- the first sector that a command's own bytes name
abbrev pub own_first : Entry → ℕ
own_first e = (task_in e.echo).lba

-- and how many; 0 is 65,536
abbrev pub own_count : Entry → ℕ
own_count e = sectors_of e.features e.features_high

-- where its next byte stands in the medium
abbrev pub own_next : Entry → ℕ
own_next e = 512 * own_first e + e.moved

-- a taken open of tag t: its command's bytes name that tag, which is below the depth; nothing of it has moved; DMA Setup has the byte count that they name, and its direction; for a write an Activate follows [any-state-serves]
pub record Opens (d : Device) (t : ℕ) (e : Entry) (reply : List ℕ) : Type 0 where
  pub tag : tag_in e.echo ≡ t
  pub below : t < d.settings.depth
  pub unmoved : e.moved ≡ 0
  pub sent : reply ≡ encode (setup (record { auto = false; interrupt = false; to_host = not e.write; tag = t; offset = 0; count = 512 * own_count e })) ++ pick e.write (encode activate) []

-- n bytes of it move: some, of what is left of its range, which lies within the medium m; and it is then n bytes further [any-state-serves]
pub record Advances (e e' : Entry) (m : List ℕ) (n : ℕ) : Type 0 where
  pub some : 0 < n
  pub left : e.moved + n ≤ 512 * own_count e
  pub within : 512 * (own_first e + own_count e) ≤ length m
  pub further : e' ≡ record e { moved = e.moved + n }

-- a taken send: of a read, min(8,192, what is left) bytes of its range from the next on are the data frame's payload [any-state-serves]
pub record Sends (e e' : Entry) (m reply : List ℕ) : Type 0 where
  pub read : e.write ≡ false
  pub moves : Advances e e' m (min 8192 (512 * own_count e - e.moved))
  pub sent : reply ≡ encode (payload (take (min 8192 (512 * own_count e - e.moved)) (drop (own_next e) m)))

-- taken host data l: of a write, they stand in its range from the next byte on, and the medium is otherwise as it was [any-state-serves]
pub record Stores (e e' : Entry) (m left l : List ℕ) : Type 0 where
  pub write : e.write ≡ true
  pub moves : Advances e e' m (length l)
  pub stored : left ≡ take (own_next e) m ++ (l ++ drop (own_next e + length l) m)

-- a tag that a taken finish names: it is outstanding, and all of its command's range has moved [any-state-serves]
pub record Finishes (d : Device) (t : ℕ) (e : Entry) : Type 0 where
  pub busy : bit_in 32 d.status.outstanding t ≡ true
  pub whole : e.moved ≡ 512 * own_count e

-- a sector of its range [any-state-serves]
abbrev pub covered : Entry → ℕ → Bool
covered e sector = leb (own_first e) sector && ltb sector (own_first e + own_count e)

-- the entry of a tag after a call
abbrev pub entry_after : Gave → ℕ → Entry
entry_after g t = entry_of g.outcome.state.entries t

-- the bytes of its replies
abbrev pub reply_of : Gave → List ℕ
reply_of g = take g.outcome.len g.buffer

-- all of it, of each result of a call of the device d as R allows it; a media error of an outstanding command, with an error and room for its reply, is taken exactly for a sector of its range; a tag that is not outstanding has no command; and no call changes the medium but by host data [any-state-serves]
pub record Serves (R : Device → Lent → Gave → Type 0) (d : Device) : Type 0 where
  pub opens : (t : ℕ) (m b : List ℕ) (g : Gave) → R d (lent (happens (OpenPhase t)) m b) g → g.outcome.refusal ≡ None → Opens d t (entry_of d.entries t) (reply_of g)
  pub sends : (t : ℕ) (m b : List ℕ) (g : Gave) → d.status.phase ≡ Some t → R d (lent (happens SendData) m b) g → g.outcome.refusal ≡ None → Sends (entry_of d.entries t) (entry_after g t) m (reply_of g)
  pub stores : (t : ℕ) (f m b : List ℕ) (g : Gave) → d.status.phase ≡ Some t → get_or f 0 0 ≡ 0x46 → R d (lent (host_frame f) m b) g → g.outcome.refusal ≡ None
      → Stores (entry_of d.entries t) (entry_after g t) m g.medium (drop 4 f)
  pub finishes : (set t : ℕ) (m b : List ℕ) (g : Gave) → R d (lent (happens (FinishTags set)) m b) g → g.outcome.refusal ≡ None → bit_in 32 set t ≡ true → Finishes d t (entry_of d.entries t)
  pub fails : (t error sector : ℕ) (m b : List ℕ) (g : Gave) → bit_in 32 d.status.outstanding t ≡ true → eqb error 0 ≡ false → 8196 ≤ length b → R d (lent (happens (MediaError t error sector)) m b) g
      → g.outcome.refusal ≡ pick (covered (entry_of d.entries t) sector) None (Some OutsideCommand)
  pub idle : (t : ℕ) → t < 32 → bit_in 32 d.status.outstanding t ≡ false → entry_of d.entries t ≡ zero_entry
  pub leaves : (l : Lent) (g : Gave) → R d l g → call_brings l.call ≡ [] → g.medium ≡ l.medium
