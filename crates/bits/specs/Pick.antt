-- One of two values, by a test.
use Rattle.std.specs.Prelude.{Bool, if◌then◌else◌}

-- the first where the test holds, else the second
abbrev pub pick : {A : Type 0} → Bool → A → A → A
pick b x y = if b then x else y
