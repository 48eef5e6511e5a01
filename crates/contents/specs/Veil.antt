-- Calls with their contents blanked: medium bytes, the payloads of host data, and what a reply buffer held.
use Rattle.std.specs.Prelude.{List, ◌++◌, ℕ, ◌-◌, eqb, length, get_or, take, replicate}
use Rattle.bits.specs.Pick.{pick}
use Rattle.rules.specs.Call.{Call, host_frame, happens}
use Rattle.device.specs.Lent.{Lent, lent}

-- the first 4 bytes, and behind them as many zeros as bytes stood there
abbrev pub headed : List ℕ → List ℕ
headed f = take 4 f ++ replicate (length f - 4) 0

-- a data frame without its payload: of that the length is left; any other frame as it is [contents-unseen]
unfoldable pub blanked : List ℕ → List ℕ
blanked f = pick (eqb (get_or f 0 0) 0x46) (headed f) f

-- a host frame so; of a device event nothing is content [contents-unseen]
abbrev pub veiled_call : Call → Call
veiled_call (host_frame f) = host_frame (blanked f)
veiled_call (happens e) = happens e

-- medium and reply buffer are as long, all zeros: calls that are veiled alike differ in contents alone [contents-unseen]
abbrev pub veil : Lent → Lent
veil l = lent (veiled_call l.call) (replicate (length l.medium) 0) (replicate (length l.buffer) 0)
