-- What is printed of an answer.
use Rattle.std.specs.Prelude.{ℕ, ◌+◌, Bool, true, not, eqb, leb, List, [], ◌∷◌, ◌++◌, length, take, drop, replicate, decimal, codes, Option, Some, None, Result, Ok, Err}
use Rattle.std.specs.List.{list_any}
use Rattle.bits.specs.Pick.{pick}
use Rattle.refusals.specs.Number.{number, number_told}
use Rattle.refusals.specs.declared.reasons.Refusal.{Refusal}
use Rattle.frames.specs.Cut.{cut}
use Rattle.hex.specs.Hex.{encode_lower}
use Rattle.events.specs.Lines.{fields_of}

-- a buffer before it is written to: of 4000h bytes EEh so many as it has
abbrev pub room_of : ℕ → List ℕ
room_of room = take room (replicate 16384 0xEE)

-- some byte is not what every byte of a buffer is before
abbrev pub touched : List ℕ → Bool
touched behind = list_any (λ byte. not (eqb byte 0xEE)) behind

-- so it is told of the bytes behind the replies
abbrev pub tail_of : List ℕ → List ℕ
tail_of behind = pick (touched behind) (codes " tail") []

-- the refusal and the length of the replies in decimal, each reply as type:length=bytes, and whether a byte behind them has changed [script-call]
abbrev pub outcome_text : Option Refusal → ℕ → List ℕ → List ℕ
outcome_text refusal len reply = decimal (number_told refusal) ++ 32 ∷ decimal len ++ fields_of true (cut (take len reply)) ++ tail_of (drop len reply) ++ 10 ∷ []

-- `refused` and the refusal's number
abbrev pub refused_text : Refusal → List ℕ
refused_text refusal = codes "refused " ++ decimal (number refusal) ++ codes "\n"

-- a counter's value in decimal, or `absent`, or the refusal
abbrev pub counter_text : Result (Option ℕ) Refusal → List ℕ
counter_text (Ok (Some value)) = decimal value ++ codes "\n"
counter_text (Ok None) = codes "absent\n"
counter_text (Err refusal) = refused_text refusal

-- a count in decimal, or the refusal
abbrev pub count_text : Result ℕ Refusal → List ℕ
count_text (Ok count) = decimal count ++ codes "\n"
count_text (Err refusal) = refused_text refusal

-- what is printed of a line that asks for nothing that there is
abbrev pub what_text : List ℕ
what_text = codes "what?\n"

-- so many bytes of the medium in lower-case hex, if it has them
abbrev pub part_text : List ℕ → ℕ → ℕ → List ℕ
part_text medium at size = pick (leb (at + size) (length medium)) (encode_lower (take size (drop at medium)) ++ codes "\n") what_text
