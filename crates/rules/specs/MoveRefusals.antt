-- What is refused for what has moved of a command, in bytes.
use Rattle.std.specs.Prelude.{Bool, not, ◌&&◌, ◌||◌, ℕ, ltb}
use Rattle.device_state.specs.Progress.{wholly}

-- 6: the payload is longer than what is left [refused-6]
abbrev pub longer : ℕ → ℕ → Bool
longer left n = ltb left n

-- 11: a tag of the set that is not outstanding or not wholly moved [refused-11]
abbrev pub not_ready : Bool → Bool → ℕ → ℕ → Bool
not_ready asked busy moved whole = asked && (not busy || not (wholly moved whole))
