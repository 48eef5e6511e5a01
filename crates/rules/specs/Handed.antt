-- What each call is handed: arguments, medium, reply buffer.
use Rattle.std.specs.Prelude.{Bool, true, false, List, [], ℕ, Option, Some, None}
use Rattle.rules.specs.Call.{Call, host_frame, happens}
use Rattle.rules.specs.declared.event.DeviceEvent.TheVariants.{OpenPhase, SendData, FinishTags, MediaError, LinkEvent, LinkTally, Comreset}

-- the bytes of a host frame, a set of tags, an error byte (none, 0, 0 where there is no such argument); the tag whose entry the call is about, if it is about one, from that of the open phase; whether it is lent the medium, and a reply buffer
pub record Handed : Type 0 where
  pub frame : List ℕ
  pub set : ℕ
  pub error : ℕ
  pub tag : Option ℕ → Option ℕ
  pub medium : Bool
  pub buffer : Bool

-- what each call is handed: a host frame and a send are about the open phase, an open and a media error about their tag; a host frame and a send are lent the medium, and every call but a link event and a tally a reply buffer
abbrev pub handed : Call → Handed
handed (host_frame f) = record { frame = f; set = 0; error = 0; tag = λ phase. phase; medium = true; buffer = true }
handed (happens (OpenPhase t)) = record { frame = []; set = 0; error = 0; tag = λ _. Some t; medium = false; buffer = true }
handed (happens SendData) = record { frame = []; set = 0; error = 0; tag = λ phase. phase; medium = true; buffer = true }
handed (happens (FinishTags s)) = record { frame = []; set = s; error = 0; tag = λ _. None; medium = false; buffer = true }
handed (happens (MediaError t e s)) = record { frame = []; set = 0; error = e; tag = λ _. Some t; medium = false; buffer = true }
handed (happens (LinkEvent r)) = record { frame = []; set = 0; error = 0; tag = λ _. None; medium = false; buffer = false }
handed (happens (LinkTally ns)) = record { frame = []; set = 0; error = 0; tag = λ _. None; medium = false; buffer = false }
handed (happens Comreset) = record { frame = []; set = 0; error = 0; tag = λ _. None; medium = false; buffer = true }
