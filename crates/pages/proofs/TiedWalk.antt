-- The contracts of the two functions over the held walk.
use Rattle.std.proofs.Common.{◌≡◌, refl, Option, Result, List, ℕ, Bor, arith}
use Rattle.bits.specs.Contract.{Tied}
use Rattle.bits.proofs.Tying.{same, say, by}
use Rattle.pages.specs.WalkStep.{Stepped}
use Rattle.pages.specs.declared.walk.Walk.{Walk}
use Rattle.pages.specs.declared.walk.WalkEntry.{WalkEntry}
use Rattle.refusals.specs.declared.reasons.Refusal.{Refusal}
use Rattle.pages.proofs.walk
use Rattle.pages.specs.contracts.walk as walk-said

-- what `Walk::new` says: the walk holds just this page, and stands where the entries begin
abbrev pub Begun : Bor (List ℕ) → Walk → Type 0
Begun p r = (r.page ≡ p) × (r.at ≡ 4)

same_walk : {p p' : Bor (List ℕ)} {a a' : ℕ} → p ≡ p' → a ≡ a' → ◌≡◌ {A = Walk} (record { page = p; at = a }) (record { page = p'; at = a' })
same_walk p q = cc

-- which allows one walk only
pub begun_once : (p : Bor (List ℕ)) (r r' : Walk) → Begun p r → Begun p r' → r ≡ r'
begun_once p r r' e f = same_walk (same e.0 f.0) (same e.1 f.1)

pub tied_new : Tied walk-said.Walk.new.ended walk.Walk.new.Reads.Asked walk.Walk.new.Reads.Post (λ κs a r ws. Begun a.0 r)
tied_new = by (say (λ κs a. tt) (λ κs a r ws p. p)) (λ κs a r r' ws ws' p q. (begun_once a.0 r r' p q, refl))

-- a step allows one answer and one walk only
pub stepped_once : (w : Walk) (r r' : Option (Result WalkEntry Refusal)) (v v' : Walk) → Stepped w r v → Stepped w r' v' → (r ≡ r') × (v ≡ v')
stepped_once w r r' v v' p q = grind arith

pub tied_step : Tied walk-said.WalkIterator.next.ended walk.WalkIterator.next.Reads.Asked walk.WalkIterator.next.Reads.Post (λ κs a r ws. Stepped a.0.now r ws.0)
tied_step = by (say (λ κs a. tt) (λ κs a r ws p. p.0)) (λ κs a r r' ws ws' p q. let e = stepped_once _ r r' ws.0 ws'.0 p q in (e.0, λ i. (e.1 i, tt)))
