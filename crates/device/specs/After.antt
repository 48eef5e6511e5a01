-- The state after an act.
use Rattle.std.specs.Prelude.{Bool, true, false, List, ℕ, replicate, Some, None}
use Rattle.bits.specs.Pick.{pick}
use Rattle.bits.specs.Bit.{bit_in}
use Rattle.device_state.specs.State.{zero_entry, blank_record}
use Rattle.device_state.specs.Table.{table_with, table_without}
use Rattle.device_state.specs.UnderWay.{none_under_way, with_tag, without_tags}
use Rattle.device_state.specs.declared.shapes.Status.{Status}
use Rattle.device_state.specs.declared.shapes.Entry.{Entry}
use Rattle.device_state.specs.declared.shapes.ErrorRecord.{ErrorRecord}
use Rattle.counters.specs.Counts.{tallied, single}
use Rattle.rules.specs.Record.{record_of}
use Rattle.rules.specs.declared.acts.Fault.{Fault}
use Rattle.rules.specs.declared.acts.Queued.{Queued}
use Rattle.rules.specs.declared.acts.Move.{Move}
use Rattle.rules.specs.declared.acts.Act.{Act}
use Rattle.rules.specs.declared.acts.Act.TheVariants.{Nothing, Bad, BadAndHalt, Accept, Log10, Log11, Identify, Reset, Release, ZeroCounters, Store, Open, Send, Finish, Media, Count, Renew}
use Rattle.device.specs.declared.state.Device.{Device}

-- the state with other counters
abbrev pub with_values : Device → List ℕ → Device
with_values d values = record d { values = values }

-- so many events more of each row [link-event] [link-tally]
unfoldable pub counted_by : Device → List ℕ → Device
counted_by d amounts = with_values d (tallied d.values amounts)

-- the same settings and counters, an empty table [halt]
abbrev pub emptied_device : Device → Status → ErrorRecord → Device
emptied_device d status record' = record d { status = status; entries = replicate 32 zero_entry; errors = record' }

-- halt: every outstanding command is given up, an open phase closes, the error record is set: with the tag, or NQ and tag 0 [halt] [record-set]
unfoldable pub halt_with : Device → Fault → Device
halt_with d f = emptied_device d (none_under_way true false) (record_of f)

-- another status and table
abbrev pub with_status : Device → Status → List Entry → Device
with_status d f es = record d { status = f; entries = es }

-- accepted: the tag is outstanding [queued-good]
unfoldable pub accepted_by : Device → Queued → Device
accepted_by d q = with_status d (with_tag d.status q.tag) (table_with d.entries q.tag q.entry)

-- the halt ends [log-replies]
unfoldable pub unhalted_device : Device → Device
unhalted_device d = record d { status = record d.status { halted = false } }

-- the counters are zeroed [log-zeroes] [bist]
unfoldable pub zeroed_if : Device → Bool → Device
zeroed_if d on = with_values d (pick on (replicate 16 0) d.values)

-- SRST: everything outstanding is dropped, halt and record cleared, reset held [srst]
unfoldable pub reset_held : Device → Device
reset_held d = emptied_device d (none_under_way false true) blank_record

-- release [release]
unfoldable pub released_device : Device → Device
released_device d = record d { status = record d.status { held = false } }

-- what has moved; at nothing left the phase closes [host-data]
unfoldable pub moved_by : Device → Move → Device
moved_by d m =
    record d { status = record d.status { phase = pick m.last None d.status.phase }; entries = table_with d.entries m.tag m.entry }

-- the phase of a tag is open [open]
unfoldable pub opened_for : Device → ℕ → Device
opened_for d tag = record d { status = record d.status { phase = Some tag } }

-- the commands of a set are finished [finish]
unfoldable pub finished_by : Device → ℕ → Device
finished_by d set = with_status d (without_tags d.status set) (table_without d.entries set)

-- media error: halt; error bit 7 adds one to counter 001h [media-error]
unfoldable pub failed_by : Device → Fault → Device
failed_by d f = halt_with (pick (bit_in 8 f.error 7) (counted_by d (single 0)) d) f

-- COMRESET: as SRST and release together, counter 00Ah + 1 (row 9), counters kept [comreset]
unfoldable pub renewed_device : Device → Device
renewed_device d = counted_by (released_device (reset_held d)) (single 9)

-- by the act [all-done]
unfoldable pub after_of : Device → Act → Device
after_of d Nothing = d
after_of d (Bad b) = d
after_of d (BadAndHalt f) = halt_with d f
after_of d (Accept q) = accepted_by d q
after_of d (Log10 task) = unhalted_device d
after_of d (Log11 l) = zeroed_if d l.zero
after_of d (Identify task) = d
after_of d Reset = reset_held d
after_of d Release = released_device d
after_of d ZeroCounters = zeroed_if d true
after_of d (Store m) = moved_by d m
after_of d (Open q) = opened_for d q.tag
after_of d (Send m) = moved_by d m
after_of d (Finish set) = finished_by d set
after_of d (Media f) = failed_by d f
after_of d (Count amounts) = counted_by d amounts
after_of d Renew = renewed_device d
