-- That contents do not show in what is told of a call.
use Rattle.std.specs.Prelude.{◌≡◌, List, ◌++◌, ℕ, length, get_or, drop}
use Rattle.rules.specs.Call.{host_frame}
use Rattle.device.specs.Lent.{Lent, lent, Gave}
use Rattle.device.specs.Step.{Given}
use Rattle.device.specs.declared.state.Device.{Device}
use Rattle.contents.specs.Veil.{veil}
use Rattle.contents.specs.Told.{told}

-- calls of one state that differ in contents alone are told alike, whatever the state [contents-unseen]
abbrev pub CallsAlike : Type 0
CallsAlike = (d : Device) (a b : Lent) (g h : Gave) → Given d a g → Given d b h → veil a ≡ veil b → told a g ≡ told b h

-- behind its replies the reply buffer holds what it held [in-turn]
abbrev pub RestStays : Type 0
RestStays = (d : Device) (a : Lent) (g : Gave) → Given d a g → drop g.outcome.len g.buffer ≡ drop g.outcome.len a.buffer

-- host data of one head, with any two payloads, media and reply buffers of the same lengths, differ in contents alone [contents-unseen]
abbrev pub DataVeiled : Type 0
DataVeiled =
    (head p q m n b c : List ℕ) → length head ≡ 4 → get_or head 0 0 ≡ 0x46 → length p ≡ length q → length m ≡ length n → length b ≡ length c
    → veil (lent (host_frame (head ++ p)) m b) ≡ veil (lent (host_frame (head ++ q)) n c)

-- and so does any other frame, and any event, with any two media and reply buffers of the same lengths
abbrev pub LentVeiled : Type 0
LentVeiled = (a : Lent) (n c : List ℕ) → length a.medium ≡ length n → length a.buffer ≡ length c → veil a ≡ veil (lent a.call n c)
