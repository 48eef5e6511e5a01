-- A call with what is lent to it, and what came back.
use Rattle.std.specs.Prelude.{List, ℕ, ◌^◌, ◌<◌, Some, None, Result, Ok, Err}
use Rattle.bits.specs.Little.{Bytes}
use Rattle.refusals.specs.declared.reasons.Refusal.{Refusal}
use Rattle.rules.specs.Call.{Call}
use Rattle.rules.specs.Handed.{handed}
use Rattle.device.specs.declared.state.Device.{Device}
use Rattle.device.specs.declared.state.Outcome.{Outcome}

-- a call with a medium and a reply buffer beside it, any of them; what it is not lent it does not look at and leaves as it was (`unlent`), and a method's own contract has no bytes there
pub record Lent : Type 0 where
  pub call : Call
  pub medium : List ℕ
  pub buffer : List ℕ

-- a call with the medium and the reply buffer lent to it
abbrev pub lent : Call → List ℕ → List ℕ → Lent
lent c m b = record { call = c; medium = m; buffer = b }

-- what a call on a lent device answers, the length of its replies or the refusal, with the state that it left in place
abbrev pub answered : Device → Result ℕ Refusal → Outcome
answered d (Ok n) = record { state = d; refusal = None; len = n }
answered d (Err r) = record { state = d; refusal = Some r; len = 0 }

-- what came back: the outcome, and what medium and reply buffer then hold
pub record Gave : Type 0 where
  pub outcome : Outcome
  pub medium : List ℕ
  pub buffer : List ℕ

-- an outcome with what medium and reply buffer then hold
abbrev pub gave : Outcome → List ℕ → List ℕ → Gave
gave r m b = record { outcome = r; medium = m; buffer = b }

-- the bytes of a host frame; of any other call none
abbrev pub frame_in : Call → List ℕ
frame_in c = (handed c).frame

-- what the types of the arguments give: a frame is of bytes, a set has 32 bits, an error is a byte
abbrev pub Typed : Call → Type 0
Typed c = Bytes (handed c).frame × ((handed c).set < 2 ^ 32) × ((handed c).error < 256)
