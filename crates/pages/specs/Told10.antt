-- What a page 10h tells by its bytes, as the rule has them: said anew, by no layout.
use Rattle.std.specs.Prelude.{List, ◌∷◌, ℕ, ◌/◌, ◌%◌, get_or, eqb}
use Rattle.bits.specs.Pick.{pick}
use Rattle.frames.specs.Told.{task_told}

-- bit 7 of byte 0, as a number [page-10h]
abbrev pub nq_told : List ℕ → ℕ
nq_told page = get_or page 0 0 / 128 % 2

-- bits 4:0 of byte 0; 0 where NQ is on [page-10h-read]
abbrev pub tag_told : List ℕ → ℕ
tag_told page = pick (eqb (nq_told page) 1) 0 (get_or page 0 0 % 32)

-- NQ, tag, status, error, and the command's bytes [answer-values]
abbrev pub record_told : List ℕ → List ℕ
record_told page = nq_told page ∷ tag_told page ∷ get_or page 2 0 ∷ get_or page 3 0 ∷ task_told page
