-- What is said of a contract is said of the function's own `Post`: its `ensures`, as the toolchain reads it off the source.
use Rattle.std.specs.Prelude.{◌≡◌}
use contract.Lifetimes.{Lfts}
use denote.Triple.Entry.{Args, Res}
use denote.Triple.Clauses.{Ended, Lasts, AtExit, at_exit}

-- what a function's `Asked` is: what it asks of its arguments, its `requires`
abbrev pub Premise : Ended → Type 1
Premise T = (κs : Lfts T.signature.lifetimes) → Args T.signature κs → Type 0

-- what a function's `Post` is: a claim of its arguments, its result, and its parameters at exit
abbrev pub Contract : Ended → Type 1
Contract T = (κs : Lfts T.signature.lifetimes) → Args T.signature κs → Res T.signature κs → AtExit T κs → Type 0

-- what a reader is told: a claim of the arguments, the result, and the last value of each thing that was lent to be changed
abbrev pub Claim : Ended → Type 1
Claim T = (κs : Lfts T.signature.lifetimes) (a : Args T.signature κs) → Res T.signature κs → Lasts T κs a → Type 0

-- what a contract allows, as such a claim
abbrev pub Allows : (T : Ended) → Contract T → Claim T
Allows T Post κs a r ws = Post κs a r (at_exit T κs a ws)

-- two answers to the same arguments are equal: the result, and all that was lent to be changed
abbrev pub Single : (T : Ended) → Claim T → Type 0
Single T C = (κs : Lfts T.signature.lifetimes) (a : Args T.signature κs) (r r' : Res T.signature κs) (ws ws' : Lasts T κs a)
    → C κs a r ws → C κs a r' ws' → (r ≡ r') × (ws ≡ ws')

-- a function asks nothing of its caller, and its contract says the claim
pub record Says (T : Ended) (Asked : Premise T) (Post : Contract T) (C : Claim T) : Type 0 where
  pub free : (κs : Lfts T.signature.lifetimes) (a : Args T.signature κs) → Asked κs a
  pub says : (κs : Lfts T.signature.lifetimes) (a : Args T.signature κs) (r : Res T.signature κs) (ws : Lasts T κs a) → Allows T Post κs a r ws → C κs a r ws

-- a function asks nothing of its caller, and its contract allows one answer only [one-function]
pub record Sole (T : Ended) (Asked : Premise T) (Post : Contract T) : Type 0 where
  pub free : (κs : Lfts T.signature.lifetimes) (a : Args T.signature κs) → Asked κs a
  pub single : Single T (Allows T Post)

-- both: its contract says the claim, and allows one answer only
pub record Tied (T : Ended) (Asked : Premise T) (Post : Contract T) (C : Claim T) : Type 0 where
  pub promise : Says T Asked Post C
  pub single : Single T (Allows T Post)

-- the same of a function over any type of reader or writer. What it asks is of what that type borrows alone: the same whatever the arguments are, and at some lifetimes, those that keep it alive, nothing. Its contract says the claim
pub record SaysOver (T : Ended) (Asked : Premise T) (Post : Contract T) (C : Claim T) : Type 0 where
  pub same : (κs : Lfts T.signature.lifetimes) (a b : Args T.signature κs) → Asked κs a → Asked κs b
  pub some : (κs : Lfts T.signature.lifetimes) × ((a : Args T.signature κs) → Asked κs a)
  pub says : (κs : Lfts T.signature.lifetimes) (a : Args T.signature κs) (r : Res T.signature κs) (ws : Lasts T κs a) → Allows T Post κs a r ws → C κs a r ws
