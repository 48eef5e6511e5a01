-- All that is read of an event in a history: what a taken call asks for, and what its replies say.
use Rattle.std.specs.Prelude.{Bool, true, not, ◌&&◌, ◌||◌, List, [], ◌∷◌, ℕ, ◌+◌, eqb, length}
use Rattle.bits.specs.Bit.{bit_in}
use Rattle.frames.specs.declared.shapes.SetBits.{SetBits}
use Rattle.frames.specs.declared.shapes.DmaSetup.{DmaSetup}
use Rattle.history.specs.Event.{Event}
use Rattle.history.specs.FrameAsks.{Asked}
use Rattle.history.specs.Asked.{asks}
use Rattle.history.specs.Replied.{FrameRead, frames, some, is_pio, err_in, register_in, set_bits_in, setup_in, collect, sent}

-- what seems to be under way: nothing; or the data of a tag to the host (D 1) or from it (D 0), at its next byte, up to its end
pub data Transfer : Type 0 where
  no_transfer : Transfer
  under_way : Bool → ℕ → ℕ → ℕ → Transfer

-- a DMA Setup begins at its offset, and ends behind its byte count
unfoldable pub begun : List DmaSetup → Transfer → Transfer
begun [] x = x
begun (s ∷ ss) x = begun ss (under_way s.to_host s.tag s.offset (s.offset + s.count))

-- what is seen of an event
pub record Seen : Type 0 where
  pub asks : Asked
  -- answered by a 34h without ERR; a command answered by one with ERR; an A1h with ERR was sent
  pub good : Bool
  pub bad : Bool
  pub fails : Bool
  -- an A1h that answers a host command: the sweep
  pub sweeps : Bool
  -- a page of the logs, by its number, was delivered to a host that asked for it: a 5Fh, with its page, answers a command that reads it
  pub delivers : ℕ → Bool
  -- the tags that an A1h without ERR, not the sweep, names
  pub finishes : ℕ → Bool
  -- the bits of every A1h's field
  pub clears : ℕ → Bool
  -- the bytes of data, not of a page, that were sent
  pub sends : ℕ
  -- what its DMA Setups begin
  pub begins : Transfer → Transfer

-- an A1h names a tag
abbrev pub names : ℕ → SetBits → Bool
names t f = bit_in 32 f.active t

-- what was asked for, the replies, and the bytes of data in them [sweep-known]
abbrev pub seen_in : Asked → List FrameRead → ℕ → Seen
seen_in a fs n = record {
  asks = a;
  good = some (λ r. not (err_in r.status)) (collect register_in fs);
  bad = a.command && some (λ r. err_in r.status) (collect register_in fs);
  fails = some (λ f. err_in f.status) (collect set_bits_in fs);
  sweeps = a.command && some (λ f. true) (collect set_bits_in fs);
  delivers = λ page. a.reads page && some is_pio fs;
  finishes = λ t. not a.command && some (λ f. not (err_in f.status) && names t f) (collect set_bits_in fs);
  clears = λ t. some (names t) (collect set_bits_in fs);
  sends = n;
  begins = begun (collect setup_in fs);
}

-- an event as a history is read
unfoldable pub seen : Event → Seen
seen e = seen_in (asks e) (frames e) (length (sent e))

-- an error was answered
abbrev pub errs : Seen → Bool
errs e = e.bad || e.fails

-- accepted: a taken queued command answered good
abbrev pub accepts : Seen → Bool
accepts e = e.asks.queued && e.good

-- a taken queued command of tag t, whatever its answer [sactive]
abbrev pub asks_for : ℕ → Seen → Bool
asks_for t e = e.asks.queued && eqb e.asks.tag t
