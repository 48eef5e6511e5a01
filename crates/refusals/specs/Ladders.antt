-- Each call's refusals in the order in which they are tried. Each test is a clause of the refusal table.
use Rattle.std.specs.Prelude.{Bool, List, [], ◌∷◌}
use Rattle.refusals.specs.First.{Rung, rung}
use Rattle.refusals.specs.declared.reasons.Refusal.TheVariants.{Contradiction, MediumLength, ReplyShort, NoHostFrame, WrongTime, TooLong, TagIdle, PhaseOpen, AllMoved, NoReadPhase, SetUnready, OutsideCommand, NoRow, NoCounter}

-- power-on: 1 settings out of bounds
abbrev pub power_ladder : Bool → List Rung
power_ladder contradicts = rung Contradiction contradicts ∷ []

-- host frame: 1; 2 medium length wrong; 3 reply buffer short; 4 no frame that a host sends; 5 at a wrong time; 6 longer than what is left
abbrev pub host_ladder : Bool → Bool → Bool → Bool → Bool → Bool → List Rung
host_ladder contradicts medium short kind time size = rung Contradiction contradicts ∷ rung MediumLength medium ∷ rung ReplyShort short ∷ rung NoHostFrame kind ∷ rung WrongTime time ∷ rung TooLong size ∷ []

-- open: 1 contradiction; 3 reply buffer short; 7 tag not outstanding; 8 a phase is open; 9 all moved already
abbrev pub open_ladder : Bool → Bool → Bool → Bool → Bool → List Rung
open_ladder contradicts short idle phase moved = rung Contradiction contradicts ∷ rung ReplyShort short ∷ rung TagIdle idle ∷ rung PhaseOpen phase ∷ rung AllMoved moved ∷ []

-- send: 1; 2 medium length wrong; 3; 10 no read phase
abbrev pub send_ladder : Bool → Bool → Bool → Bool → List Rung
send_ladder contradicts medium short none = rung Contradiction contradicts ∷ rung MediumLength medium ∷ rung ReplyShort short ∷ rung NoReadPhase none ∷ []

-- finish: 1; 3; 8; 11 empty set, or a tag not outstanding or not wholly moved
abbrev pub finish_ladder : Bool → Bool → Bool → Bool → List Rung
finish_ladder contradicts short phase set = rung Contradiction contradicts ∷ rung ReplyShort short ∷ rung PhaseOpen phase ∷ rung SetUnready set ∷ []

-- media error: 1; 3; 7; 12 byte 0, or sector outside the command
abbrev pub media_ladder : Bool → Bool → Bool → Bool → List Rung
media_ladder contradicts short idle outside = rung Contradiction contradicts ∷ rung ReplyShort short ∷ rung TagIdle idle ∷ rung OutsideCommand outside ∷ []

-- link event: 1; 13 row 0, row 9, above 15, or not kept
abbrev pub link_ladder : Bool → Bool → List Rung
link_ladder contradicts row = rung Contradiction contradicts ∷ rung NoRow row ∷ []

-- COMRESET: 1; 3
abbrev pub comreset_ladder : Bool → Bool → List Rung
comreset_ladder contradicts short = rung Contradiction contradicts ∷ rung ReplyShort short ∷ []

-- a counter by its number: 1; 23 number asked not 1 to FFFh
abbrev pub counter_ladder : Bool → Bool → List Rung
counter_ladder contradicts number = rung Contradiction contradicts ∷ rung NoCounter number ∷ []

-- host frame, before the frame is looked at: 1; 2 medium length wrong; 3 reply buffer short
abbrev pub lent_ladder : Bool → Bool → Bool → List Rung
lent_ladder contradicts medium short = rung Contradiction contradicts ∷ rung MediumLength medium ∷ rung ReplyShort short ∷ []
