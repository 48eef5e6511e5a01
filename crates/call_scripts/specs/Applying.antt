-- A change made to a state.
use Rattle.std.specs.Prelude.{slice_set}
use Rattle.device_state.specs.Table.{table_with}
use Rattle.device.specs.declared.state.Device.{Device}
use Rattle.call_scripts.specs.declared.changes.Change.{Change}
use Rattle.call_scripts.specs.declared.changes.Change.TheVariants.{Depth, Capacity, Mask, Outstanding, Phase, Halted, Held, Value, Entry, Record}

-- the state with a field, an entry, the record or a value anew
abbrev pub changed : Device → Change → Device
changed d (Depth n) = record d { settings = record d.settings { depth = n } }
changed d (Capacity n) = record d { settings = record d.settings { capacity = n } }
changed d (Mask n) = record d { settings = record d.settings { mask = n } }
changed d (Outstanding n) = record d { status = record d.status { outstanding = n } }
changed d (Phase p) = record d { status = record d.status { phase = p } }
changed d (Halted b) = record d { status = record d.status { halted = b } }
changed d (Held b) = record d { status = record d.status { held = b } }
changed d (Value row n) = record d { values = slice_set d.values row n }
changed d (Entry tag e) = record d { entries = table_with d.entries tag e }
changed d (Record e) = record d { errors = e }
