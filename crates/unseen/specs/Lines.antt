-- That contents do not show in the lines of the event program.
use Rattle.std.specs.Prelude.{◌≡◌, true, false, List, [], ◌∷◌, ◌++◌, map, ℕ, ◌+◌}
use Rattle.device.specs.Step.{bytes_of}
use Rattle.events.specs.declared.asked.Event.{Event}
use Rattle.events.specs.declared.asked.Event.TheVariants.{HostData}
use Rattle.events.specs.Calls.{call_of}
use Rattle.events.specs.Lines.{line_of}
use Rattle.events.specs.Running.{Kept, step_of, after, told, Read, nothing, begun, started, start_line, run_lines}
use Rattle.contents.specs.Told.{is_send, shown}

-- an event without its contents: of host data, the byte that fills it; every other event has none [contents-lines]
abbrev pub veiled_event : Event → Event
veiled_event (HostData byte) = HostData 0
veiled_event event = event

-- of what a run has read, every event so
abbrev pub veiled_read : Read → Read
veiled_read nothing = nothing
veiled_read (begun s es) = begun s (map veiled_event es)

-- the line of an event in a trace, with zeros for a send's payload
abbrev pub shown_line : ℕ → Kept → Event → List ℕ
shown_line n k e = line_of true n (step_of k e).refusal (step_of k e).state.status.outstanding (shown (call_of k.device e) (bytes_of (step_of k e)))

-- those of events, numbered on
unfoldable pub shown_from : ℕ → Kept → List Event → List ℕ
shown_from n k [] = []
shown_from n k (e ∷ es) = shown_line n k e ++ shown_from (n + 1) (after k e) es

-- the trace of a run, with zeros for the payloads of sends [contents-lines]
unfoldable pub shown_trace : Read → List ℕ
shown_trace nothing = []
shown_trace (begun s es) = start_line true s ++ shown_from 1 (started s) es

-- two runs print the same lines; and traced, the same but for the payloads of sends [contents-lines]
pub record SameLines (a b : Read) : Type 0 where
  pub lines : run_lines false a ≡ run_lines false b
  pub trace : shown_trace a ≡ shown_trace b

-- so do those that read event files which differ in contents alone [contents-lines]
abbrev pub LinesAlike : Type 0
LinesAlike = (a b : Read) → veiled_read a ≡ veiled_read b → SameLines a b

-- of every event but a send that is the line of the trace as it stands
abbrev pub OthersWhole : Type 0
OthersWhole = (n : ℕ) (k : Kept) (e : Event) → is_send (call_of k.device e) ≡ false → shown_line n k e ≡ told true n k e
