-- What an event asks for, and the host data that it brings.
use Rattle.std.specs.Prelude.{List, [], ℕ}
use Rattle.bits.specs.Pick.{pick}
use Rattle.history.specs.Event.{Event, taken}
use Rattle.history.specs.FrameAsks.{Asked, quiet}
use Rattle.history.specs.Reading.{call_asks, call_brings}

-- a refused call counts as never delivered [not-delivered]
abbrev pub asks : Event → Asked
asks e = pick (taken e) (call_asks e.call) quiet

-- the bytes that a taken host data frame brought
abbrev pub brought : Event → List ℕ
brought e = pick (taken e) (call_brings e.call) []
