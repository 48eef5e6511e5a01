-- What the type of an event says of what stands in it: numbers are of their widths, and frames are of bytes.
use Rattle.std.proofs.Common.{ℕ, zero, suc, List, [], ◌∷◌, arith, unwrap_or}
use denote.Array.{each}
use denote.Builtin.{u8}
use denote.Enum.Declared
use denote.Enum.Laws
use denote.Laws.{Is}
use denote.Shadow.{shadow}
use mir.Val.{Val}
use Rattle.bits.specs.Little.{Bytes}
use Rattle.device.specs.DataDue.{data_due}
use Rattle.device.specs.Lent.{Typed}
use Rattle.device.specs.declared.state.Device.{Device}
use Rattle.device.proofs.Typing.{none_typed, frame_typed, set_typed, error_typed}
use Rattle.events.specs.Calls.{call_of}
use Rattle.events.specs.HostData.{host_data_frame}
use Rattle.events.specs.contracts.asked.Event as event-said
use Rattle.events.proofs.asked.Event.TheLaws as event-laws
use Rattle.events.specs.declared.asked.Event.{Event}
use Rattle.events.specs.declared.asked.Event.TheVariants.{OfDevice, HostData, HostRegister, Bist}
use Rattle.rules.specs.declared.event.DeviceEvent.TheVariants.{FinishTags, MediaError}
use Rattle.caller.proofs.Plays.{data_bytes}

-- a value of the type
abbrev pub IsValue : Event → Type 0
IsValue e = Is (denote.Enum.Declared.row event-said.the_type) e (denote.Enum.Laws.val event-said.the_type event-laws.the_laws e ∷ [])

each_byte : (frame : List ℕ) (vals : List Val) → shadow (each u8.Denot u8.own_val frame vals) → Bytes frame
each_byte [] vals h i = omega arith
each_byte (b ∷ frame) [] h i = absurd h
each_byte (b ∷ frame) (v ∷ vals) h zero = h.0.1
each_byte (b ∷ frame) (v ∷ vals) h (suc i) = each_byte frame vals h.1 i

pub typed_value : (d : Device) (e : Event) → IsValue e → Typed (call_of d e)
unfolding call_of
typed_value d (OfDevice (FinishTags tags)) h = set_typed tags h.1.1.1.1.0.1.1.1.1.0.1
typed_value d (OfDevice (MediaError tag error sector)) h = error_typed error h.1.1.1.1.0.1.1.1.1.1.0.1
typed_value d (OfDevice event) h = none_typed
typed_value d (HostData b) h = frame_typed (host_data_frame d b) (data_bytes (unwrap_or (data_due d) 4) b h.1.1.1.1.0.1)
typed_value d (HostRegister frame) h = frame_typed frame (each_byte frame _ h.1.1.1.1.0.1.1)
typed_value d (Bist frame) h = frame_typed frame (each_byte frame _ h.1.1.1.1.0.1.1)
