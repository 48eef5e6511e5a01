-- What is written of a text, left of it, or lost.
use Rattle.std.specs.Prelude.{ℕ, List, Option}
use Rattle.streams.specs.Fronts.{AppendsFront, AppendsSome}
use Rattle.events.specs.declared.errors.RunError.{RunError}
use Rattle.events.specs.declared.errors.RunError.TheVariants.{Input, Output, Memory, TooMany}

-- a write failed
abbrev pub IsOutput : RunError → Type 0
IsOutput (Input e) = ⊥
IsOutput (Output e) = Unit
IsOutput Memory = ⊥
IsOutput TooMany = ⊥

-- text is lost: a write failed, and a front was written; or there is no memory for more, and it may be all of it [event-lost]
abbrev pub Loses : RunError → Option (List ℕ) → Option (List ℕ) → List ℕ → Type 0
Loses (Input e) old new text = ⊥
Loses (Output e) old new text = AppendsFront old new text
Loses Memory old new text = AppendsSome old new text
Loses TooMany old new text = ⊥
