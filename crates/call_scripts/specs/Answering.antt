-- What a bench answers to a command, and what that leaves behind.
use Rattle.std.specs.Prelude.{ℕ, List, [], length, Some}
use Rattle.bits.specs.Laid.{overlay}
use Rattle.device_state.specs.declared.shapes.Settings.{Settings}
use Rattle.rules.specs.Call.{Call, host_frame, happens}
use Rattle.device.specs.Counter.{counter_of, count_of}
use Rattle.device.specs.Device.{power_on}
use Rattle.device.specs.Step.{Step, bytes_of}
use Rattle.call_scripts.specs.Answers.{room_of, outcome_text, counter_text, count_text, part_text}
use Rattle.call_scripts.specs.Applying.{changed}
use Rattle.call_scripts.specs.Bench.{Kept, loan_of, called, after_call}
use Rattle.call_scripts.specs.Counting.{counted, data_frame}
use Rattle.call_scripts.specs.Judging.{judged, verdict_text}
use Rattle.call_scripts.specs.ReadLines.{reading_text}
use Rattle.call_scripts.specs.Rows.{state_text}
use Rattle.call_scripts.specs.WriteLines.{writing_text}
use Rattle.call_scripts.specs.declared.commands.Command.{Command}
use Rattle.call_scripts.specs.declared.commands.Command.TheVariants.{Nothing, Power, Frame, Data, Event, Counter, Count, Judge, Lend, Fill, Set, Show, Medium, Read, Write}

-- the reply buffer that a call is lent: as many bytes as are lent [script-call]
abbrev pub buffer_of : Kept → List ℕ
buffer_of k = room_of (loan_of k).reply

-- what is printed of a step in a reply buffer b
abbrev pub step_text : Step → List ℕ → List ℕ
step_text s b = outcome_text s.refusal (length (bytes_of s)) (overlay (bytes_of s) b)

-- the line of a call
abbrev pub call_text : Kept → Call → List ℕ
call_text k c = step_text (called k c (buffer_of k)) (buffer_of k)

-- the line of power-on, which is lent no reply buffer
abbrev pub power_text : Settings → List ℕ
power_text s = outcome_text (power_on s).refusal 0 []

-- what a command leaves behind [script-run]
unfoldable pub after : Kept → Command → Kept
after k Nothing = k
after k (Power s) = record k { device = (power_on s).state }
after k (Frame bytes) = after_call k (host_frame bytes) (buffer_of k)
after k (Data size byte) = after_call k (host_frame (data_frame size byte)) (buffer_of k)
after k (Event event) = after_call k (happens event) (buffer_of k)
after k (Counter number) = k
after k Count = k
after k (Judge host) = k
after k (Lend medium reply) = record k { loan = Some (record { medium = medium; reply = reply }) }
after k (Fill byte) = record k { medium = counted 251 byte (length k.medium) }
after k (Set change) = record k { device = changed k.device change }
after k Show = k
after k (Medium at size) = k
after k (Read reading) = k
after k (Write room writing) = k

-- what is printed of it
unfoldable pub answer_of : Kept → Command → List ℕ
answer_of k Nothing = []
answer_of k (Power s) = power_text s
answer_of k (Frame bytes) = call_text k (host_frame bytes)
answer_of k (Data size byte) = call_text k (host_frame (data_frame size byte))
answer_of k (Event event) = call_text k (happens event)
answer_of k (Counter number) = counter_text (counter_of k.device number)
answer_of k Count = count_text (count_of k.device)
answer_of k (Judge host) = verdict_text (judged k.device host)
answer_of k (Lend medium reply) = []
answer_of k (Fill byte) = []
answer_of k (Set change) = []
answer_of k Show = state_text k.device
answer_of k (Medium at size) = part_text k.medium at size
answer_of k (Read reading) = reading_text reading
answer_of k (Write room writing) = writing_text room writing
