-- Steps of which each may give nothing.
use Rattle.std.specs.Prelude.{Option, Some, None}

-- the second step, if the first gave a value
infixl 10 ◌>>=◌
abbrev pub ◌>>=◌ : {A B : Type 0} → Option A → (A → Option B) → Option B
Some x >>= f = f x
None >>= f = None
