-- Host data of the length due.
use Rattle.std.specs.Prelude.{List, ◌∷◌, ℕ, replicate, unwrap_or}
use Rattle.device.specs.DataDue.{data_due}
use Rattle.device.specs.declared.state.Device.{Device}

-- n payload bytes behind a data frame's head, all of the one byte given
unfoldable pub data_frame : ℕ → ℕ → List ℕ
data_frame n b = 0x46 ∷ 0 ∷ 0 ∷ 0 ∷ replicate n b

-- 07h host data of the length due; 4 payload bytes if no write phase is open [event-data]
abbrev pub host_data_frame : Device → ℕ → List ℕ
host_data_frame d b = data_frame (unwrap_or (data_due d) 4) b
