-- What the reader of IDENTIFY DEVICE's page answers tells is what the bytes tell.
use Rattle.std.proofs.Common.{Some, None, ◌≡◌, refl, Bool, true, false, not, ◌&&◌, ◌||◌, List, [], ◌∷◌, ℕ, zero, suc, ◌+◌, ◌/◌, ◌%◌, ◌<◌, arith, mod-lt, eqb, Result}
use Rattle.bits.specs.Pick.{pick}
use Rattle.bits.specs.Little.{le_at}
use Rattle.refusals.specs.First.{first_of}
use Rattle.refusals.specs.Told.{answer_unless}
use Rattle.refusals.specs.declared.reasons.Refusal.{Refusal}
use Rattle.refusals.proofs.FirstLaws.{by_unless}
use Rattle.identity.specs.Told.{value_told, depth_told, sectors_told, page_told}
use Rattle.identity.specs.Read.{queue_told, capacity_told, told_by, ladder_identity, read_identity, identity_answer}
use Rattle.identity.specs.declared.reading.Identified.{Identified}

-- a bit is on where it is not off
not_off : (n : ℕ) → n < 2 → eqb n 1 ≡ not (eqb n 0)
not_off zero h = refl
not_off (suc zero) h = refl
not_off (suc (suc n)) h = absurd (omega arith)

-- what is told unless one of three tests holds
unless_one : (a b c : Bool) (x : ℕ) → value_told (pick (not a && not b && not c) (Some x) None) ≡ pick ((a || b) || c) (0 ∷ []) (1 ∷ x ∷ [])
unless_one true b c x = refl
unless_one false true c x = refl
unless_one false false true x = refl
unless_one false false false x = refl

-- and where a test holds
if_both : (a : Bool) (x : ℕ) → value_told (pick a (Some x) None) ≡ pick a (1 ∷ x ∷ []) (0 ∷ [])
if_both true x = refl
if_both false x = refl

module _ (page : List ℕ) where
  depth_is : value_told (queue_told page) ≡ depth_told page
  depth_is =
      let w = le_at page 152 2 in
      rw (not_off (w / 256 % 2) (mod-lt (w / 256) (omega arith))) (unless_one (eqb w 0) (eqb w 65535) (eqb (w / 256 % 2) 0) (le_at page 150 2 % 32 + 1))

  sectors_is : value_told (capacity_told page) ≡ sectors_told page
  sectors_is = if_both (eqb (le_at page 166 2 / 16384) 1 && eqb (le_at page 166 2 / 1024 % 2) 1) (le_at page 200 8)

  abbrev Tells : Result Identified Refusal → Type 0
  Tells r = identity_answer r ≡ answer_unless (first_of (ladder_identity page)) (page_told page)

  pub identity_tells : Tells (read_identity page)
  unfolding read_identity identity_answer
  identity_tells = by_unless Tells (first_of (ladder_identity page)) (told_by page) (λ refusal e. rw e refl) (λ e. rw (e, depth_is, sectors_is) refl)
