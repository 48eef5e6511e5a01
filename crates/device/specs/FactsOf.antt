-- What a decision looks at, of a device and of what is lent to a call.
use Rattle.std.specs.Prelude.{Bool, not, List, ℕ, eqb, ltb, length, Option, Some, None}
use Rattle.device_state.specs.State.{zero_entry, medium_size}
use Rattle.device_state.specs.Table.{entry_of}
use Rattle.device_state.specs.declared.shapes.Entry.{Entry}
use Rattle.rules.specs.Call.{Call}
use Rattle.rules.specs.Handed.{handed}
use Rattle.rules.specs.Tests.{some_unready}
use Rattle.rules.specs.declared.facts.Facts.{Facts}
use Rattle.device.specs.Device.{contradictory_device}
use Rattle.device.specs.Lent.{Lent}
use Rattle.device.specs.declared.state.Device.{Device}

-- the entry of the tag that is meant; where none is, an idle one
abbrev pub entry_meant : List Entry → Option ℕ → Entry
entry_meant es None = zero_entry
entry_meant es (Some t) = entry_of es t

-- 2: medium length wrong; it is 512 × capacity (`medium_size`). Read of a host frame and of a send alone: of a call that is lent no medium it says nothing [medium] [refused-2]
abbrev pub medium_wrong : ℕ → ℕ → Bool
medium_wrong capacity n = not (eqb n (medium_size capacity))

-- the tests of 1, 2 (the call says) and 3 (reply buffer under 8,196), the entry of a tag if one is meant, and whether a set has an unready tag [reply-room] [refused-3]
abbrev pub facts_with : Device → Option ℕ → Bool → Bool → ℕ → Facts
facts_with d tag wrong some room = record {
  contradicts = contradictory_device d;
  medium_wrong = wrong;
  reply_short = ltb room 8196;
  settings = d.settings;
  status = d.status;
  entry = entry_meant d.entries tag;
  some_unready = some;
}

-- the tag whose entry a call is about, if it is about one: its own, or that of the open phase
abbrev pub tag_meant : Option ℕ → Call → Option ℕ
tag_meant phase c = (handed c).tag phase

-- a call names a set with an unready tag [refused-11]
abbrev pub unready_in : Device → Call → Bool
unready_in d c = some_unready d.entries d.status.outstanding (handed c).set

-- what a call's decision looks at [reply-room] [refused-3]
abbrev pub facts_of : Device → Lent → Facts
facts_of d l =
    facts_with d (tag_meant d.status.phase l.call) (medium_wrong d.settings.capacity (length l.medium))
    (unready_in d l.call) (length l.buffer)
