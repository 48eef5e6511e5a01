-- What a call makes the device do: refused by the first of its tests that holds, and otherwise done.
use Rattle.std.specs.Prelude.{ℕ, Some, Result}
use Rattle.bits.specs.Little.{byte_of}
use Rattle.refusals.specs.First.{first_of, unless}
use Rattle.refusals.specs.declared.reasons.Refusal.{Refusal}
use Rattle.frames.specs.Read.{read_frame}
use Rattle.frames.specs.declared.shapes.Frame.{Frame}
use Rattle.counters.specs.Counts.{single}
use Rattle.device_state.specs.declared.shapes.Echo.{Echo}
use Rattle.rules.specs.Call.{Call, host_frame, happens}
use Rattle.rules.specs.declared.event.DeviceEvent.TheVariants.{OpenPhase, SendData, FinishTags, MediaError, LinkEvent, LinkTally, Comreset}
use Rattle.rules.specs.Positions.{move_of}
use Rattle.rules.specs.Tests.{kind_tests, frame_tests, tests}
use Rattle.rules.specs.Decide.{frame_act}
use Rattle.rules.specs.declared.facts.Facts.{Facts}
use Rattle.rules.specs.declared.acts.Act.{Act}
use Rattle.rules.specs.declared.acts.Act.TheVariants.{Open, Send, Finish, Media, Count, Renew}

-- after a media error 4-6 and 8-10 hold the failing sector [media-error] [record-set]
unfoldable pub failing : Echo → ℕ → Echo
failing e sector = record e {
  b4 = byte_of sector 0;
  b5 = byte_of sector 1;
  b6 = byte_of sector 2;
  b8 = byte_of sector 3;
  b9 = byte_of sector 4;
  b10 = byte_of sector 5;
}

-- a call that is not turned down: a host frame by its rules; open a phase for a tag; send min(8,192, what is left) bytes; finish a set; media error; link event, which is a tally of one; link tally; COMRESET [data-size] [send] [link-event] [link-tally]
unfoldable pub does : Facts → Call → Act
does v (host_frame f) = frame_act v (read_frame f)
does v (happens (OpenPhase t)) = Open (record { tag = t; entry = v.entry })
does v (happens SendData) = Send (move_of v.status v.entry 8192)
does v (happens (FinishTags s)) = Finish s
does v (happens (MediaError t e s)) = Media (record { tag = Some t; error = e; echo = failing v.entry.echo s })
does v (happens (LinkEvent r)) = Count (single r)
does v (happens (LinkTally ns)) = Count ns
does v (happens Comreset) = Renew

-- a refusal, lowest number first; otherwise the call is done [exactly]
unfoldable pub act : Facts → Call → Result Act Refusal
act v c = unless (first_of (tests v c)) (does v c)

-- of a host frame as it was read: what its code comes to
abbrev pub heard_act : Facts → Result Frame Refusal → Result Act Refusal
heard_act v f = unless (first_of (frame_tests v f)) (frame_act v f)

-- the same by 4, 5 and 6 alone, where 1, 2 and 3 do not hold
abbrev pub kind_act : Facts → Result Frame Refusal → Result Act Refusal
kind_act v f = unless (first_of (kind_tests v f)) (frame_act v f)
