-- Refusal 24, exactly when its clause holds.
use Rattle.std.proofs.Common.{◌≡◌, ap, ◌∙◌, List, ℕ, Result, arith}
use Rattle.refusals.specs.First.{first_of, refusal_in, FirstExactly}
use Rattle.refusals.specs.Number.{number_told}
use Rattle.refusals.specs.declared.reasons.Refusal.{Refusal}
use Rattle.refusals.proofs.FirstLaws.{first_exactly as of-a-list}
use Rattle.frames.specs.Size.{readable}
use Rattle.refusals.specs.Told.{answer_unless}
use Rattle.frames.specs.Told.{frame_told}
use Rattle.frames.specs.Read.{frame_by_kind, read_frame, ladder24, frame_answer, FrameGiven}
use Rattle.frames.specs.declared.shapes.Frame.{Frame}
use Rattle.frames.proofs.ToldLaws.{read_tells}

refused_24 : (l : List ℕ) → refusal_in (read_frame l) ≡ first_of (ladder24 l)
unfolding read_frame readable frame_by_kind first_of
refused_24 l = grind arith

-- 24, exactly when the kind is unknown or the length wrong
pub first_exactly : (l : List ℕ) → FirstExactly (ladder24 l) (refusal_in (read_frame l))
first_exactly l = rw (refused_24 l) (of-a-list (ladder24 l) tt)

-- the number that an answer tells is that of its refusal, and 0 where it has none
pub number_told_lem : (r : Result Frame Refusal) → (frame_answer r).number ≡ number_told (refusal_in r)
unfolding frame_answer
number_told_lem r = grind arith

-- an answer tells the number of the first test that holds, and no value, or 0 and what the bytes tell
pub frame_tells : (l : List ℕ) → frame_answer (read_frame l) ≡ answer_unless (first_of (ladder24 l)) (frame_told l)
frame_tells l = rw (refused_24 l) at (read_tells l)

-- the frame that the bytes are is all that the reader promises
pub read_told : (l : List ℕ) (r : Result Frame Refusal) → r ≡ read_frame l → FrameGiven l r
read_told l r e = record { answer = e; refusal = ap refusal_in e ∙ refused_24 l; told = ap frame_answer e ∙ frame_tells l }
