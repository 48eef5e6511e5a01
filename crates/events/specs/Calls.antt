-- Which call of the device an event makes, and what it leaves behind.
use Rattle.std.specs.Prelude.{List, ℕ, Option, Some, None}
use Rattle.rules.specs.Call.{Call, host_frame, happens}
use Rattle.device.specs.Lent.{lent}
use Rattle.device.specs.Step.{Step, step}
use Rattle.device.specs.declared.state.Device.{Device}
use Rattle.events.specs.declared.asked.Event.{Event}
use Rattle.events.specs.declared.asked.Event.TheVariants.{OfDevice, HostData, HostRegister, Bist}
use Rattle.events.specs.HostData.{host_data_frame}

-- the call that an event makes in the state d; host data has the length due [event-call]
unfoldable pub call_of : Device → Event → Call
call_of d (OfDevice event) = happens event
call_of d (HostData b) = host_frame (host_data_frame d b)
call_of d (HostRegister frame) = host_frame frame
call_of d (Bist frame) = host_frame frame

-- the frame that an event carries whole: 27h or 58h
unfoldable pub frame_of : Event → Option (List ℕ)
frame_of (HostRegister frame) = Some frame
frame_of (Bist frame) = Some frame
frame_of event = None

-- its step, lent the medium m and the reply buffer b [event-call]
abbrev pub event_step : Device → Event → List ℕ → List ℕ → Step
event_step d e m b = step d (lent (call_of d e) m b)
