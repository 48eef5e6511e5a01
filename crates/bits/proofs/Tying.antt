-- How a contract is tied to what it says.
use Rattle.std.proofs.Common.{◌≡◌, sym, ◌∙◌}
use contract.Lifetimes.{Lfts}
use denote.Triple.Entry.{Args, Res}
use denote.Triple.Clauses.{Ended, Lasts}
use Rattle.bits.specs.Contract.{Premise, Contract, Claim, Allows, Says, Single, Sole, Tied}

-- two values that are a third
pub same : {A : Type 0} {x y z : A} → x ≡ z → y ≡ z → x ≡ y
same p q = p ∙ sym q

-- a function that asks nothing, with a contract that allows one answer only
pub sole : {T : Ended} {Asked : Premise T} {Post : Contract T} → ((κs : Lfts T.signature.lifetimes) (a : Args T.signature κs) → Asked κs a) → Single T (Allows T Post) → Sole T Asked Post
sole f u = record { free = f; single = u }

-- a function that asks nothing, with a contract that says a claim
pub say : {T : Ended} {Asked : Premise T} {Post : Contract T} {C : Claim T} → ((κs : Lfts T.signature.lifetimes) (a : Args T.signature κs) → Asked κs a)
    → ((κs : Lfts T.signature.lifetimes) (a : Args T.signature κs) (r : Res T.signature κs) (ws : Lasts T κs a) → Allows T Post κs a r ws → C κs a r ws) → Says T Asked Post C
say f s = record { free = f; says = s }

-- both, where the claim allows one answer only
pub by : {T : Ended} {Asked : Premise T} {Post : Contract T} {C : Claim T} → Says T Asked Post C → Single T C → Tied T Asked Post C
by p u = record { promise = p; single = λ κs a r r' ws ws' x y. u κs a r r' ws ws' (p.says κs a r ws x) (p.says κs a r' ws' y) }
