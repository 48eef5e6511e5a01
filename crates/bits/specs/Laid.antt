-- Bytes laid over the front of others.
use Rattle.std.specs.Prelude.{List, ◌++◌, ℕ, length, drop, leb}
use Rattle.bits.specs.Pick.{pick}

-- s laid over the front of d, and behind it what stood there
abbrev pub overlay : List ℕ → List ℕ → List ℕ
overlay s d = s ++ drop (length s) d

-- s laid over the front of d where it has room; else d as it was
unfoldable pub overlay_with_room : List ℕ → List ℕ → List ℕ
overlay_with_room s d = pick (leb (length s) (length d)) (overlay s d) d
