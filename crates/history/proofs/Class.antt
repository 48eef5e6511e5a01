-- What a call can do, as a history is read: eleven kinds of effect. A new call or command comes to one of them.
use Rattle.std.proofs.Common.{Some, None, ◌≡◌, Bool, true, false, not, ◌&&◌, ◌||◌, ℕ, ◌+◌, ◌*◌, ◌^◌, ◌≤◌, ◌<◌, eqb, leb}
use Rattle.bits.specs.Pick.{pick}
use Rattle.bits.specs.Bit.{bit_in, with_bit_in, clear_in}
use Rattle.device_state.specs.Table.{entry_of}
use Rattle.device.specs.declared.state.Device.{Device}
use Rattle.history.specs.Seen.{Seen, Transfer, under_way, accepts}

-- no tag
abbrev pub none : ℕ → Bool
none t = false

-- what is seen of an event: queued, accepted, bad, fails, resets, sweeps, delivers page 10h; the tags that it finishes and clears; the bytes that it sends and brings
pub record Is (e : Seen) (qu ac ba fa re sw de : Bool) (fi cl : ℕ → Bool) (se br : ℕ) : Type 0 where
  pub queued : e.asks.queued ≡ qu
  pub accepted : accepts e ≡ ac
  pub bad : e.bad ≡ ba
  pub fails : e.fails ≡ fa
  pub resets : e.asks.resets ≡ re
  pub sweeps : e.sweeps ≡ sw
  pub delivers : e.delivers 0x10 ≡ de
  pub finishes : (t : ℕ) → e.finishes t ≡ fi t
  pub clears : (t : ℕ) → e.clears t ≡ cl t
  pub sends : e.sends ≡ se
  pub brings : e.asks.brings ≡ br

-- nothing begins
abbrev pub Unbegun : Seen → Type 0
Unbegun e = (x : Transfer) → e.begins x ≡ x

-- the same settings, commands, phase and halt
pub record Same (d d' : Device) : Type 0 where
  pub settings : d'.settings ≡ d.settings
  pub outstanding : d'.status.outstanding ≡ d.status.outstanding
  pub phase : d'.status.phase ≡ d.status.phase
  pub halted : d'.status.halted ≡ d.status.halted
  pub entries : d'.entries ≡ d.entries

-- nothing outstanding, no phase open
pub record Emptied (ha : Bool) (d d' : Device) : Type 0 where
  pub settings : d'.settings ≡ d.settings
  pub outstanding : d'.status.outstanding ≡ 0
  pub phase : d'.status.phase ≡ None
  pub halted : d'.status.halted ≡ ha

-- a command that was accepted: its tag was free and below the depth, and its entry is what was asked for
pub record Took (d : Device) (e : Seen) (d' : Device) : Type 0 where
  pub calm : d.status.halted ≡ false
  pub shut : d.status.phase ≡ None
  pub small : e.asks.tag < 32
  pub free : bit_in 32 d.status.outstanding e.asks.tag ≡ false
  pub settings : d'.settings ≡ d.settings
  pub outstanding : d'.status.outstanding ≡ with_bit_in 32 d.status.outstanding e.asks.tag
  pub phase : d'.status.phase ≡ d.status.phase
  pub halted : d'.status.halted ≡ d.status.halted
  pub write : (entry_of d'.entries e.asks.tag).write ≡ e.asks.write
  pub first : (entry_of d'.entries e.asks.tag).first ≡ e.asks.first
  pub count : (entry_of d'.entries e.asks.tag).count ≡ e.asks.count
  pub moved : (entry_of d'.entries e.asks.tag).moved ≡ 0
  pub others : (t : ℕ) → t < 32 → (t ≡ e.asks.tag → ⊥) → entry_of d'.entries t ≡ entry_of d.entries t

-- a phase that was opened for a tag: it was closed before, and nothing of the command has moved
pub record Opened (tag : ℕ) (d : Device) (e : Seen) (d' : Device) : Type 0 where
  pub shut : d.status.phase ≡ None
  pub busy : bit_in 32 d.status.outstanding tag ≡ true
  pub moved : (entry_of d.entries tag).moved ≡ 0
  pub some : 0 < (entry_of d.entries tag).count
  pub begins : (x : Transfer) → e.begins x ≡ under_way (not (entry_of d.entries tag).write) tag 0 (512 * (entry_of d.entries tag).count)
  pub settings : d'.settings ≡ d.settings
  pub outstanding : d'.status.outstanding ≡ d.status.outstanding
  pub phase : d'.status.phase ≡ Some tag
  pub halted : d'.status.halted ≡ d.status.halted
  pub entries : d'.entries ≡ d.entries

-- n bytes that moved in the open phase of a tag, which closes at nothing left; n is not 0, and no more than is left
pub record Carried (tag n : ℕ) (d d' : Device) : Type 0 where
  pub phased : d.status.phase ≡ Some tag
  pub busy : bit_in 32 d.status.outstanding tag ≡ true
  pub some : 0 < n
  pub within : (entry_of d.entries tag).moved + n ≤ 512 * (entry_of d.entries tag).count
  pub settings : d'.settings ≡ d.settings
  pub outstanding : d'.status.outstanding ≡ d.status.outstanding
  pub phase : d'.status.phase ≡ pick (leb (512 * (entry_of d.entries tag).count) ((entry_of d.entries tag).moved + n)) None d.status.phase
  pub halted : d'.status.halted ≡ d.status.halted
  pub write : (entry_of d'.entries tag).write ≡ (entry_of d.entries tag).write
  pub first : (entry_of d'.entries tag).first ≡ (entry_of d.entries tag).first
  pub count : (entry_of d'.entries tag).count ≡ (entry_of d.entries tag).count
  pub moved : (entry_of d'.entries tag).moved ≡ (entry_of d.entries tag).moved + n
  pub others : (t : ℕ) → t < 32 → (t ≡ tag → ⊥) → entry_of d'.entries t ≡ entry_of d.entries t

-- a set of tags that was finished: each was outstanding and wholly moved, and no phase was open
pub record Ended (set : ℕ) (d d' : Device) : Type 0 where
  pub calm : d.status.halted ≡ false
  pub shut : d.status.phase ≡ None
  pub width : set < 2 ^ 32
  pub ready : (t : ℕ) → t < 32 → bit_in 32 set t ≡ true → (bit_in 32 d.status.outstanding t ≡ true) × ((entry_of d.entries t).moved ≡ 512 * (entry_of d.entries t).count)
  pub settings : d'.settings ≡ d.settings
  pub outstanding : d'.status.outstanding ≡ clear_in 32 d.status.outstanding set
  pub phase : d'.status.phase ≡ d.status.phase
  pub halted : d'.status.halted ≡ d.status.halted
  pub others : (t : ℕ) → t < 32 → bit_in 32 set t ≡ false → entry_of d'.entries t ≡ entry_of d.entries t

-- the eleven kinds
pub data Class (d : Device) (e : Seen) (d' : Device) : Type 0 where
  -- nothing that is read in a history: a refused call, a signature after release, BIST, a link event
  plain : Is e false false false false false false false none none 0 0 → Unbegun e → Same d d' → Class d e d'
  -- a page, of the two logs, while not halted
  pages : (de : Bool) → Is e false false false false false false de none none 0 0 → Unbegun e → d.status.halted ≡ false → Same d d' → Class d e d'
  -- an error answered while halted
  again : (q : Bool) → Is e q false true false false false false none none 0 0 → Unbegun e → d.status.halted ≡ true → d.status.outstanding ≡ 0 → Same d d' → Class d e d'
  -- an error answered to a command that is not queued, while nothing is outstanding
  freely : Is e false false true false false false false none none 0 0 → Unbegun e → d.status.halted ≡ false → d.status.outstanding ≡ 0 → Same d d' → Class d e d'
  -- a halt: a bad answer to a queued command, or to another while something is outstanding; or an A1h with ERR, which answers no queued command
  halts : (q bad fails : Bool) → Is e q false bad fails false false false none none 0 0 → Unbegun e → (q ≡ true → fails ≡ false) → d.status.halted ≡ false
      → (bad && (q || not (eqb d.status.outstanding 0))) || fails ≡ true → Emptied true d d' → Class d e d'
  -- SRST, COMRESET
  resets : Is e false false false false true false false none none 0 0 → Unbegun e → Emptied false d d' → Class d e d'
  -- the sweep clears every bit, and the halt ends
  sweeps : (clears : ℕ → Bool) → ((t : ℕ) → t < 32 → clears t ≡ true) → Is e false false false false false true true none clears 0 0 → Unbegun e
      → d.status.halted ≡ true → d.status.outstanding ≡ 0 → d.status.phase ≡ None → Emptied false d d' → Class d e d'
  takes : Is e true true false false false false false none none 0 0 → Unbegun e → Took d e d' → Class d e d'
  opens : (tag : ℕ) → Is e false false false false false false false none none 0 0 → Opened tag d e d' → Class d e d'
  -- a read sends, a write brings
  carries : (tag n : ℕ)
      → Is e false false false false false false false none none (pick (entry_of d.entries tag).write 0 n) (pick (entry_of d.entries tag).write n 0)
      → Unbegun e → Carried tag n d d' → Class d e d'
  ends : (set : ℕ) → Is e false false false false false false false (bit_in 32 set) (bit_in 32 set) 0 0 → Unbegun e → Ended set d d' → Class d e d'
