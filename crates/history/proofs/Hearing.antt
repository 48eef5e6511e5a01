-- What the history reads of a host frame is what its act does to the counters; and only page 11h is read as such.
use Rattle.std.proofs.Common.{Ok, ◌≡◌, refl, sym, subst, ◌∙◌, Bool, true, false, ◌&&◌, List, [], ℕ, ◌%◌, arith}
use mathlib.Core.Bool.{false≢true, and-false}
use Rattle.bits.specs.Bit.{bit_in}
use Rattle.frames.specs.declared.shared.Task.{Task}
use Rattle.frames.specs.Write.{FrameValue}
use Rattle.frames.specs.declared.shapes.HostReg.{HostReg}
use Rattle.frames.specs.declared.shapes.Frame.TheVariants as fs
use Rattle.device_state.specs.State.{echo_of}
use Rattle.rules.specs.OtherRule.{asks_errors, asks_counters, asks_identity}
use Rattle.rules.specs.Decide.{log_page, page_asked}
use Rattle.rules.specs.declared.acts.CountersRead.{CountersRead}
use Rattle.rules.specs.declared.acts.Move.{Move}
use Rattle.rules.specs.declared.acts.Act.{Act}
use Rattle.rules.specs.declared.acts.Act.TheVariants.{Log10, Log11, Identify, Store, ZeroCounters}
use Rattle.replies.specs.Replies.{replies_of}
use Rattle.device.specs.After.{after_of, moved_by, unhalted_device, zeroed_if}
use Rattle.device.specs.Step.{state_shown}
use Rattle.device.specs.declared.state.Device.{Device}
use Rattle.history.specs.Replied.{FrameRead, some, is_pio}
use Rattle.history.specs.Logs.{reads_log}
use Rattle.history.specs.FrameAsks.{register_asks}
use Rattle.history.specs.FrameReading.{frame_asks, frame_zeroes}
use Rattle.history.specs.Reading.{uncounted}
use Rattle.history.proofs.Views.{read_in}
use Rattle.history.proofs.Tally.{Counted}
use Rattle.history.proofs.Impact.{unchanged, zeroed_values}

-- some frame of these is a 5Fh
abbrev pub pio_in : List FrameValue → Bool
pio_in sent = some is_pio (read_in sent)

-- the act is a read of page 11h
pub record Logs (a : Act) : Type 0 where
  pub log : CountersRead
  pub is : a ≡ Log11 log

-- of a frame that is read as f: the counters after its act are zero if it zeroes them, and else as they were; and a page that answers a read of 11h is page 11h
pub record Hears (d : Device) (f : FrameRead) (paged : Bool) (a : Act) : Type 0 where
  pub values : Counted (frame_zeroes paged f) uncounted d.values (after_of d a).values
  pub shown : paged ≡ true → (frame_asks f).reads 0x11 ≡ true → Logs a

-- ---- the page that a command names

-- byte 4 is the lowest byte of the LBA
first_byte : (t : Task) → (echo_of t).b4 ≡ t.lba % 256
unfolding echo_of
first_byte t = omega arith

-- a well-formed read of page 10h is one that the history reads as such
pub reads_errors : (h : HostReg) → h.command_bit ≡ true → asks_errors (page_asked h) ≡ true → reads_log 0x10 h ≡ true
unfolding log_page
reads_errors h c p = let b = first_byte h.task in grind arith

-- and of page 11h
pub reads_counters : (h : HostReg) → h.command_bit ≡ true → asks_counters (page_asked h) ≡ true → reads_log 0x11 h ≡ true
unfolding log_page
reads_counters h c p = let b = first_byte h.task in grind arith

-- one of page 10h is not one of 11h
reads_ten : (h : HostReg) → asks_errors (page_asked h) ≡ true → reads_log 0x11 h ≡ false
unfolding log_page
reads_ten h p = let b = first_byte h.task in grind arith

-- IDENTIFY DEVICE reads no page of the logs
pub reads_none : (h : HostReg) → asks_identity (page_asked h) ≡ true → (page : ℕ) → reads_log page h ≡ false
unfolding log_page
reads_none h p page = grind arith

-- and is one that the history reads as such
pub identifies_lem : (h : HostReg) → h.command_bit ≡ true → asks_identity (page_asked h) ≡ true → (register_asks h).identifies ≡ true
unfolding log_page
identifies_lem h c p = grind arith

-- no read of a page of the logs is one
pub ten_unidentified : (h : HostReg) → asks_errors (page_asked h) ≡ true → (register_asks h).identifies ≡ false
unfolding log_page
ten_unidentified h p = grind arith

pub eleven_unidentified : (h : HostReg) → asks_counters (page_asked h) ≡ true → (register_asks h).identifies ≡ false
unfolding log_page
eleven_unidentified h p = grind arith

-- ---- each rule

module _ (d : Device) where
  -- a frame that is answered with no page, and zeroes nothing
  pub none_heard : (f : FrameRead) (a : Act) → frame_zeroes false f ≡ false → (after_of d a).values ≡ d.values → Hears d f false a
  none_heard f a z v = record { values = rw (z, v) (unchanged d.values); shown = λ p _. absurd (false≢true p) }

  -- of an act, with the replies that it sends
  abbrev pub HeardBy : FrameRead → Act → Type 0
  HeardBy f a = Hears d f (pio_in (replies_of (state_shown d) [] a)) a

  -- host data, whatever follows it
  pub data_heard : (n : ℕ) (m : Move) → HeardBy (Ok (fs.Data n)) (Store m)
  unfolding after_of moved_by
  data_heard n m = record { values = unchanged d.values; shown = λ _ q. absurd (false≢true q) }

  -- page 10h
  pub ten_heard : (h : HostReg) → asks_errors (page_asked h) ≡ true → HeardBy (Ok (fs.Host h)) (Log10 h.task)
  unfolding after_of unhalted_device
  ten_heard h t = record {
    values = rw (reads_ten h t, and-false (pio_in (replies_of (state_shown d) [] (Log10 h.task)))) (unchanged d.values);
    shown = λ _ q. absurd (false≢true (sym (reads_ten h t) ∙ q));
  }

  -- IDENTIFY DEVICE
  pub identity_heard : (h : HostReg) → asks_identity (page_asked h) ≡ true → HeardBy (Ok (fs.Host h)) (Identify h.task)
  unfolding after_of
  identity_heard h t = record {
    values = rw (reads_none h t 0x11, and-false (pio_in (replies_of (state_shown d) [] (Identify h.task)))) (unchanged d.values);
    shown = λ _ q. absurd (false≢true (sym (reads_none h t 0x11) ∙ q));
  }

  -- page 11h: it zeroes by its bit alone
  pub eleven_heard : (h : HostReg) → h.command_bit ≡ true → asks_counters (page_asked h) ≡ true → HeardBy (Ok (fs.Host h)) (Log11 (record { zero = bit_in 8 h.features 0; task = h.task }))
  unfolding after_of replies_of some
  eleven_heard h c t = record {
    values = subst (λ (b : Bool). Counted (b && bit_in 8 h.features 0) uncounted d.values (zeroed_if d (bit_in 8 h.features 0)).values) (sym (reads_counters h c t)) (zeroed_values d (bit_in 8 h.features 0));
    shown = λ _ _. record { log = record { zero = bit_in 8 h.features 0; task = h.task }; is = refl };
  }

  -- BIST
  pub bist_heard : HeardBy (Ok fs.Bist) ZeroCounters
  unfolding after_of
  bist_heard = record { values = zeroed_values d true; shown = λ _ q. absurd (false≢true q) }
