-- Replies by the kinds of their frames, and those that a taken command or control frame may have, in their order.
use Rattle.std.specs.Prelude.{◌≡◌, Bool, List, [], ◌∷◌, map, ◌⊎◌, ℕ, Ok, Err}
use Rattle.bits.specs.Pick.{pick}
use Rattle.frames.specs.declared.shapes.Frame.TheVariants.{Host, Device, Bits, Setup, Activate, Data, Bist, Pio}
use Rattle.history.specs.Event.{Event}
use Rattle.history.specs.Replied.{FrameRead, frames}

-- the kind of a frame, as its type byte; 0 stands for one that the reader refuses
abbrev pub kind_of : FrameRead → ℕ
kind_of (Ok (Host f)) = 0x27
kind_of (Ok (Device f)) = 0x34
kind_of (Ok (Bits f)) = 0xA1
kind_of (Ok (Setup f)) = 0x41
kind_of (Ok Activate) = 0x39
kind_of (Ok (Data n)) = 0x46
kind_of (Ok Bist) = 0x58
kind_of (Ok (Pio f)) = 0x5F
kind_of (Err r) = 0

-- the kinds of the replies, in their order
abbrev pub kinds : Event → List ℕ
kinds e = map kind_of (frames e)

-- one of several
abbrev pub OneOf : List ℕ → List (List ℕ) → Type 0
OneOf l [] = ⊥
OneOf l (x ∷ xs) = (l ≡ x) ⊎ OneOf l xs

-- a command: a device register reply; or PIO Setup and the page; or the sweep before these
abbrev pub command_replies : List (List ℕ)
command_replies = (0x34 ∷ []) ∷ (0x5F ∷ 0x46 ∷ []) ∷ (0xA1 ∷ 0x5F ∷ 0x46 ∷ []) ∷ []

-- a control frame: with SRST no reply; with SRST 0 none, or the signature
abbrev pub control_replies : Bool → List (List ℕ)
control_replies srst = pick srst ([] ∷ []) ([] ∷ (0x34 ∷ []) ∷ [])
