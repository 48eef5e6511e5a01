-- The line of an event.
use Rattle.std.specs.Prelude.{Bool, true, false, List, [], ◌∷◌, ◌++◌, ℕ, decimal, flat_map, length, get_or, Option}
use Rattle.bits.specs.Little.{byte_of}
use Rattle.refusals.specs.Number.{number_told}
use Rattle.refusals.specs.declared.reasons.Refusal.{Refusal}
use Rattle.hex.specs.Hex.{encode_lower, encode_upper}
use Rattle.frames.specs.Cut.{cut}

-- 32 bits in eight upper-case hex digits [event-lines]
abbrev pub upper8 : ℕ → List ℕ
upper8 n = encode_upper (byte_of n 3 ∷ byte_of n 2 ∷ byte_of n 1 ∷ byte_of n 0 ∷ [])

-- = and the bytes of a reply in lower-case hex
abbrev pub trace_of : List ℕ → List ℕ
trace_of reply = 61 ∷ encode_lower reply

-- only where the run is traced
abbrev pub traced_of : Bool → List ℕ → List ℕ
traced_of true reply = trace_of reply
traced_of false reply = []

-- a blank, and type:length
abbrev pub typed : ℕ → ℕ → List ℕ
typed kind n = 32 ∷ encode_upper (kind ∷ []) ++ 58 ∷ decimal n

-- those of a reply
abbrev pub label_of : List ℕ → List ℕ
label_of reply = typed (get_or reply 0 0) (length reply)

-- and its bytes, where the run is traced
abbrev pub field_of : Bool → List ℕ → List ℕ
field_of traced reply = label_of reply ++ traced_of traced reply

-- those of all replies, in their order
abbrev pub fields_of : Bool → List (List ℕ) → List ℕ
fields_of traced replies = flat_map (field_of traced) replies

-- a refusal's number (0 = taken), decimal, and outstanding tags in eight upper-case hex digits
abbrev pub told_of : ℕ → ℕ → List ℕ
told_of told outstanding = 32 ∷ decimal told ++ 32 ∷ upper8 outstanding

-- number from 0, decimal, and those of an event
abbrev pub head_of : ℕ → Option Refusal → ℕ → List ℕ
head_of number refusal outstanding = decimal number ++ told_of (number_told refusal) outstanding

-- one line an event: one blank between fields, none at the end, LF [event-lines]
abbrev pub line_of : Bool → ℕ → Option Refusal → ℕ → List ℕ → List ℕ
line_of traced number refusal outstanding replies = head_of number refusal outstanding ++ fields_of traced (cut replies) ++ 10 ∷ []
