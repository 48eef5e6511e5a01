-- Refusals 25 and 26, of every writer: each exactly when its clause holds and none before it; and a refused write keeps everything.
use Rattle.std.proofs.Common.{◌≡◌, ◌∙◌, Bool, List, ℕ, length, Result, Err}
use Rattle.refusals.specs.First.{refusal_in, FirstExactly}
use Rattle.refusals.specs.declared.reasons.Refusal.{Refusal}
use Rattle.refusals.proofs.FirstLaws as firsts
use Rattle.frames.specs.Emit.{ladder_write, write_refusal, WriteGiven}

-- 25 before 26, each exactly then
pub first_exactly : (fit : Bool) (s d : List ℕ) (r : Result ℕ Refusal) (d' : List ℕ) → WriteGiven fit s d r d' → FirstExactly (ladder_write fit (length s) (length d)) (refusal_in r)
unfolding write_refusal
first_exactly fit s d r d' w = rw (w.answer, firsts.refusal_in_unless) (firsts.first_exactly (ladder_write fit (length s) (length d)) tt)

-- a refused write changes no byte
pub refused_keeps : (fit : Bool) (s d : List ℕ) (x : Refusal) (d' : List ℕ) → WriteGiven fit s d (Err x) d' → d' ≡ d
refused_keeps fit s d x d' w = w.bytes ∙ rw (firsts.unless_err (write_refusal fit (length s) (length d)) (length s) x w.answer)
