-- What can be asked for, as far as a history is read for it.
use Rattle.std.specs.Prelude.{Bool, true, false, not, ◌&&◌, ◌||◌, ℕ, eqb}
use Rattle.frames.specs.Shared.{tag_of, sectors_of, srst_of}
use Rattle.frames.specs.declared.shapes.HostReg.{HostReg}
use Rattle.history.specs.Logs.{reads_log}

-- a command; a queued one, whether it writes, its tag, first sector and count; whether it reads a page of the logs, by the page's number; whether it asks what the device is; a reset; the bytes of host data
pub record Asked : Type 0 where
  pub command : Bool
  pub queued : Bool
  pub write : Bool
  pub tag : ℕ
  pub first : ℕ
  pub count : ℕ
  pub reads : ℕ → Bool
  pub identifies : Bool
  pub resets : Bool
  pub brings : ℕ

-- nothing of all that
abbrev pub quiet : Asked
quiet = record { command = false; queued = false; write = false; tag = 0; first = 0; count = 0; reads = λ page. false; identifies = false; resets = false; brings = 0 }

-- 27h: C 1 is a command, 60h and 61h are queued, 61h writes, 2Fh reads a page, ECh asks what the device is; C 0 with SRST is a reset
abbrev pub register_asks : HostReg → Asked
register_asks h = record {
  command = h.command_bit;
  queued = h.command_bit && (eqb h.command 0x60 || eqb h.command 0x61);
  write = eqb h.command 0x61;
  tag = tag_of h.task.count;
  first = h.task.lba;
  count = sectors_of h.features h.features_high;
  reads = λ page. reads_log page h;
  identifies = h.command_bit && eqb h.command 0xEC;
  resets = not h.command_bit && srst_of h.control;
  brings = 0;
}

-- 46h brings its payload
abbrev pub data_asks : ℕ → Asked
data_asks n = record quiet { brings = n }

-- COMRESET is a reset
abbrev pub reset_asks : Asked
reset_asks = record quiet { resets = true }

-- a page: one of the two logs, or that of IDENTIFY DEVICE
abbrev pub asks_page : Asked → Bool
asks_page k = k.reads 0x10 || (k.reads 0x11 || k.identifies)
