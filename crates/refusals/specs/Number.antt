-- The number of each refusal.
use Rattle.std.specs.Prelude.{ℕ, Option, Some, None}
use Rattle.refusals.specs.declared.reasons.Refusal.{Refusal}
use Rattle.refusals.specs.declared.reasons.Refusal.TheVariants.{Contradiction, MediumLength, ReplyShort, NoHostFrame, WrongTime, TooLong, TagIdle, PhaseOpen, AllMoved, NoReadPhase, SetUnready, OutsideCommand, NoRow, PageLength, PageSum, PageDamaged, NoCounter, NoFrame, Unfit, BufferShort}

-- as the refusal table numbers them [exactly]
abbrev pub number : Refusal → ℕ
number Contradiction = 1
number MediumLength = 2
number ReplyShort = 3
number NoHostFrame = 4
number WrongTime = 5
number TooLong = 6
number TagIdle = 7
number PhaseOpen = 8
number AllMoved = 9
number NoReadPhase = 10
number SetUnready = 11
number OutsideCommand = 12
number NoRow = 13
number PageLength = 20
number PageSum = 21
number PageDamaged = 22
number NoCounter = 23
number NoFrame = 24
number Unfit = 25
number BufferShort = 26

-- what is told of what was taken, or refused: 0, or the refusal's number
abbrev pub number_told : Option Refusal → ℕ
number_told None = 0
number_told (Some r) = number r
