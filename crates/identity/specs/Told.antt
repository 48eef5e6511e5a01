-- What a page of IDENTIFY DEVICE tells by its bytes, as the rule has them: word k stands at byte 2 k.
use Rattle.std.specs.Prelude.{List, [], ◌∷◌, ◌++◌, ℕ, ◌+◌, ◌/◌, ◌%◌, ◌&&◌, ◌||◌, eqb, Option, Some, None}
use Rattle.bits.specs.Pick.{pick}
use Rattle.bits.specs.Little.{le_at}

-- 1 and the value, or 0 and none
abbrev pub value_told : Option ℕ → List ℕ
value_told (Some x) = 1 ∷ x ∷ []
value_told None = 0 ∷ []

-- 1 and one more than bits 4:0 of word 75; or 0, where word 76 is 0000h or FFFFh, or its bit 8 is off [identity-read]
abbrev pub depth_told : List ℕ → List ℕ
depth_told page =
    pick ((eqb (le_at page 152 2) 0 || eqb (le_at page 152 2) 65535) || eqb (le_at page 152 2 / 256 % 2) 0) (0 ∷ [])
    (1 ∷ (le_at page 150 2 % 32 + 1) ∷ [])

-- 1 and words 100 to 103, where bits 15:14 of word 83 are 01b and its bit 10 is on; or 0 [identity-read]
abbrev pub sectors_told : List ℕ → List ℕ
sectors_told page = pick (eqb (le_at page 166 2 / 16384) 1 && eqb (le_at page 166 2 / 1024 % 2) 1) (1 ∷ le_at page 200 8 ∷ []) (0 ∷ [])

-- depth and capacity, each behind whether the page tells it [answer-values]
abbrev pub page_told : List ℕ → List ℕ
page_told page = depth_told page ++ sectors_told page
