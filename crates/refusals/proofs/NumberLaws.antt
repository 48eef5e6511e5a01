-- Each refusal has a number of its own, and none has 0.
use Rattle.std.proofs.Common.{◌≡◌, refl, sym, ap, ◌∙◌, List, [], ◌∷◌, ℕ, eqb, Some, arith}
use Rattle.std.specs.List.{find}
use Rattle.refusals.specs.Number.{number}
use Rattle.refusals.specs.declared.reasons.Refusal.{Refusal}
use Rattle.refusals.specs.declared.reasons.Refusal.TheVariants.{Contradiction, MediumLength, ReplyShort, NoHostFrame, WrongTime, TooLong, TagIdle, PhaseOpen, AllMoved, NoReadPhase, SetUnready, OutsideCommand, NoRow, PageLength, PageSum, PageDamaged, NoCounter, NoFrame, Unfit, BufferShort}

all : List Refusal
all =
    Contradiction ∷ MediumLength ∷ ReplyShort ∷ NoHostFrame ∷ WrongTime ∷ TooLong ∷ TagIdle ∷ PhaseOpen ∷ AllMoved ∷ NoReadPhase
    ∷ SetUnready ∷ OutsideCommand ∷ NoRow ∷ PageLength ∷ PageSum ∷ PageDamaged ∷ NoCounter ∷ NoFrame ∷ Unfit ∷ BufferShort ∷ []

-- a refusal is the first of all that has its number
found : (r : Refusal) → find (λ (q : Refusal). eqb (number q) (number r)) all ≡ Some r
unfolding all
found Contradiction = refl
found MediumLength = refl
found ReplyShort = refl
found NoHostFrame = refl
found WrongTime = refl
found TooLong = refl
found TagIdle = refl
found PhaseOpen = refl
found AllMoved = refl
found NoReadPhase = refl
found SetUnready = refl
found OutsideCommand = refl
found NoRow = refl
found PageLength = refl
found PageSum = refl
found PageDamaged = refl
found NoCounter = refl
found NoFrame = refl
found Unfit = refl
found BufferShort = refl

pub number_once : (a b : Refusal) → number a ≡ number b → a ≡ b
number_once a b e =
    let s = sym (found a) ∙ ap (λ (n : ℕ). find (λ (q : Refusal). eqb (number q) n) all) e ∙ found b in
    cc

pub number_some : (r : Refusal) → 0 ≡ number r → ⊥
number_some r e = grind arith
