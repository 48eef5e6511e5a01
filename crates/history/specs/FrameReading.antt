-- How a history reads a host frame: one row a kind.
use Rattle.std.specs.Prelude.{Bool, true, false, ◌&&◌, List, [], ◌∷◌, ℕ, Ok}
use Rattle.bits.specs.Pick.{pick}
use Rattle.frames.specs.Shared.{srst_of}
use Rattle.frames.specs.declared.shapes.HostReg.{HostReg}
use Rattle.frames.specs.declared.shapes.Frame.TheVariants.{Host, Data, Bist}
use Rattle.history.specs.Replied.{FrameRead}
use Rattle.history.specs.FrameAsks.{Asked, quiet, register_asks, data_asks}
use Rattle.history.specs.Logs.{zeroes_log}
use Rattle.history.specs.Shapes.{command_replies, control_replies}

-- of a host frame: what it asks for; whether it zeroes the counters if it is taken, by whether a page answers it; the replies that it may have, by their kinds in their order
pub record FrameReading : Type 0 where
  pub asks : Asked
  pub zeroes : Bool → Bool
  pub replies : List (List ℕ)

-- 27h, by its C
abbrev pub register_reading : HostReg → FrameReading
register_reading h = record {
  asks = register_asks h;
  zeroes = λ on. on && zeroes_log h;
  replies = pick h.command_bit command_replies (control_replies (srst_of h.control));
}

-- data: no reply, or an Activate if more is left
abbrev pub data_reading : ℕ → FrameReading
data_reading n = record { asks = data_asks n; zeroes = λ on. false; replies = [] ∷ (0x39 ∷ []) ∷ [] }

-- BIST Activate zeroes the counters, without a reply
abbrev pub bist_reading : FrameReading
bist_reading = record { asks = quiet; zeroes = λ on. true; replies = [] ∷ [] }

-- a frame of any other kind, or none, is never taken, so that no reply will do
abbrev pub never_taken : FrameReading
never_taken = record { asks = quiet; zeroes = λ on. false; replies = [] }

-- by its kind [shapes]
abbrev pub frame_reading : FrameRead → FrameReading
frame_reading (Ok (Host h)) = register_reading h
frame_reading (Ok (Data n)) = data_reading n
frame_reading (Ok Bist) = bist_reading
frame_reading _ = never_taken

-- ---- each column

-- what it asks for
abbrev pub frame_asks : FrameRead → Asked
frame_asks f = (frame_reading f).asks

-- it zeroes the counters
abbrev pub frame_zeroes : Bool → FrameRead → Bool
frame_zeroes on f = (frame_reading f).zeroes on

-- the replies that it may have
abbrev pub frame_replies : FrameRead → List (List ℕ)
frame_replies f = (frame_reading f).replies
