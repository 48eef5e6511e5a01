-- Values of page 11h that stand at the top of their width.
use Rattle.std.specs.Prelude.{ℕ, ◌*◌, ◌-◌, ◌^◌, min, Bool, eqb}
use Rattle.pages.specs.declared.value.CounterValue.{CounterValue}

-- the largest value of n bytes, of which a value has at most 8
unfoldable pub top_of : ℕ → ℕ
top_of n = 2 ^ (8 * min n 8) - 1

-- a value is the largest of its width [top]
unfoldable pub at_top : CounterValue → Bool
at_top v = eqb v.value (top_of v.bytes)
