-- The calls of a script.
use Rattle.rules.specs.Call.{Call, host_frame, happens}
use Rattle.call_scripts.specs.declared.calls.Call as script
use Rattle.call_scripts.specs.declared.calls.Call.TheVariants.{HostFrame, Event}

-- a frame as its bytes, or an event
abbrev pub call_of : script.Call → Call
call_of (HostFrame frame) = host_frame frame.now
call_of (Event event) = happens event
